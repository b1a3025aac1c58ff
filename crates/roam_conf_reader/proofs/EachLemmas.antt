-- A list of tables, read one after the other.
use Rattle.std.proofs.Common.{◌≡◌, ℕ, ◌+◌, ◌<◌, ◌≤◌, List, [], ◌∷◌, ◌++◌, length, get_or, drop, Option, Some, None, sym, ap, ◌∙◌, subst, append_assoc}
use Rattle.std.proofs.lemmas.List.{append-nil}
use Rattle.std.proofs.Math.ListN.{drop_of_length-le}
use Rattle.toml.specs.Data.{Data, table, Items, no_items, item, Members, as_table}
use Rattle.toml.specs.View.{view, items_view}
use Rattle.toml.specs.declared.value.Value.{Value}
use Rattle.toml.proofs.Views.{items_view-drop}
use Rattle.roam_conf_reader.specs.Document.{StatesEach, StatesTables}

-- the values `done` are those of the items that were read, and `rest` are the items that are left of all
pub record Pushed {V : Type 0} (States : Members → V → Type 0) (all rest : Items) (done : List V) : Type 0 where
  pub joins : (more : List V) → StatesEach States rest more → StatesEach States all (done ++ more)
  pub splits : (values : List V) → StatesEach States all values → (more : List V) × StatesEach States rest more

-- an item that is a table comes with the first value
each_first : {V : Type 0} (States : Members → V →
    Type 0) (found : Data) (members : Members) (items : Items) (values : List V) → as_table found ≡ Some members →
    StatesEach States (item found items) values → (value : V) × (more : List V) × States members value
    × StatesEach States items more
each_first States (table ms) members' items [] is all = absurd all
each_first States (table ms) members' items (value ∷ values) is all =
    let same : ms ≡ members' = cc in
    (value, values, subst (λ m. States m value) same all.0, all.1)
each_first States found members' items values is all = cc

each_more : {V : Type 0} (States : Members → V →
    Type 0) (found : Data) (members : Members) (items : Items) (value : V) (more : List V) →
    as_table found ≡ Some members → States members value → StatesEach States items more →
    StatesEach States (item found items) (value ∷ more)
each_more States (table ms) members' items value more is here rest =
    let same : members' ≡ ms = cc in
    (subst (λ m. States m value) same here, rest)
each_more States found members' items value more is here rest = cc

pub pushed_more : {V : Type 0} (States : Members → V →
    Type 0) (all items : Items) (found : Data) (members : Members) (done : List V) (value : V) →
    Pushed States all (item found items) done → as_table found ≡ Some members → States members value →
    Pushed States all items (done ++ value ∷ [])
pushed_more States all items found members done value pushed is here = record {
  joins = λ more stated. rw append_assoc
      (pushed.joins (value ∷ more) (each_more States found members items value more is here stated));
  splits = λ values stated.
      let left = pushed.splits values stated in
      let first = each_first States found members items left.0 is left.1 in
      (first.1, first.3);
}

pub pushed_all : {V : Type 0} (States : Members → V → Type 0) (all : Items) (done : List V) →
    Pushed States all no_items done → StatesEach States all done
pushed_all States all done pushed = rw append-nil at (pushed.joins [] tt)

pub pushed_bad : {V : Type 0} (States : Members → V →
    Type 0) (all items : Items) (found : Data) (members : Members) (done values : List V) →
    Pushed States all (item found items) done → as_table found ≡ Some members →
    ((value : V) → States members value → ⊥) → StatesEach States all values → ⊥
pushed_bad States all items found members done values pushed is bad stated =
    let left = pushed.splits values stated in
    let first = each_first States found members items left.0 is left.1 in
    bad first.0 first.2

-- the same, where the items are those of an array from an index on
pub pushed_at : {V : Type 0} (States : Members → V →
    Type 0) (values : List Value) (i : ℕ) (value : Value) (done : List V) → i < length values →
    value ≡ get_or values i value → Pushed States (items_view values) (items_view (drop i values)) done →
    Pushed States (items_view values) (item (view value) (items_view (drop (i + 1) values))) done
pushed_at States values i value done within is pushed =
    let here : items_view (drop i values) ≡ item (view value) (items_view (drop (i + 1) values)) =
    items_view-drop values i value within ∙ ap (λ v. item (view v) (items_view (drop (i + 1) values))) (sym is) in
    rw here at pushed

pub pushed_end : {V : Type 0} (States : Members → V → Type 0) (values : List Value) (i : ℕ) (done : List V) →
    length values ≤ i → Pushed States (items_view values) (items_view (drop i values)) done →
    StatesEach States (items_view values) done
pushed_end States values i done past pushed =
    let over : items_view (drop i values) ≡ no_items = ap items_view (drop_of_length-le values past) in
    pushed_all States (items_view values) done (rw over at pushed)

-- where there are no tables none are stated
pub no_tables : {V : Type 0} (States : Members → V → Type 0) (o : Option Items) (values : List V) → None ≡ o →
    StatesTables States o values → ⊥
no_tables States o values none stated =
    subst (λ (found : Option Items). StatesTables States found values) (sym none) stated
