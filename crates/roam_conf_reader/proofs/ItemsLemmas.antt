-- The values of an array's items, read one after the other.
use Rattle.std.proofs.Common.{◌≡◌, ℕ, ◌+◌, ◌<◌, ◌≤◌, List, [], ◌∷◌, ◌++◌, length, get_or, drop, Option, Some, None, option_map, refl, sym, ap, ◌∙◌, append_assoc}
use Rattle.std.proofs.lemmas.List.{append-nil}
use Rattle.std.proofs.Math.ListN.{drop_of_length-le}
use Rattle.toml.specs.Data.{Data, item}
use Rattle.toml.specs.View.{view, items_view}
use Rattle.toml.specs.declared.value.Value.{Value}
use Rattle.toml.proofs.Views.{items_view-drop}
use Rattle.roam_conf_reader.specs.Values.{each_of, cons_if_both}

-- `all` are the values that were read and those of the items that are left
abbrev pub AreRead : {V : Type 0} → (Data → Option V) → Option (List V) → List Value → List V → Type 0
AreRead reads all left done = all ≡ option_map (λ more. done ++ more) (each_of reads (items_view left))

-- the first of the items that are left
next_item : {V : Type 0} (reads : Data → Option V) (values : List Value) (i : ℕ) (value : Value) →
    i < length values → value ≡ get_or values i value →
    each_of reads (items_view (drop i values))
    ≡ cons_if_both (reads (view value)) (each_of reads (items_view (drop (i + 1) values)))
next_item reads values i value within is =
    let here : items_view (drop i values) ≡ item (view value) (items_view (drop (i + 1) values)) =
    items_view-drop values i value within ∙ ap (λ v. item (view v) (items_view (drop (i + 1) values))) (sym is) in
    ap (each_of reads) here

joined : {V : Type 0} (done : List V) (v : V) (rest : Option (List V)) →
    option_map (λ more. done ++ more) (cons_if_both (Some v) rest)
    ≡ option_map (λ more. (done ++ v ∷ []) ++ more) rest
joined done v None = refl
joined done v (Some more) = ap Some (sym (append_assoc done (v ∷ []) more))

-- one more item was read
pub read_more : {V : Type 0} (reads : Data → Option V) (all : Option (List V)) (values : List Value) (i : ℕ)
    (value : Value) (done : List V) (v : V) → i < length values → value ≡ get_or values i value →
    reads (view value) ≡ Some v → AreRead reads all (drop i values) done →
    AreRead reads all (drop (i + 1) values) (done ++ v ∷ [])
read_more reads all values i value done v within is there read =
    let rest = each_of reads (items_view (drop (i + 1) values)) in
    read ∙ ap (option_map (λ more. done ++ more)) (next_item reads values i value within is
    ∙ ap (λ o. cons_if_both o rest) there) ∙ joined done v rest

-- an item states nothing
pub read_bad : {V : Type 0} (reads : Data → Option V) (all : Option (List V)) (values : List Value) (i : ℕ)
    (value : Value) (done : List V) → i < length values → value ≡ get_or values i value →
    reads (view value) ≡ None → AreRead reads all (drop i values) done → all ≡ None
read_bad reads all values i value done within is none read =
    read ∙ ap (option_map (λ more. done ++ more)) (next_item reads values i value within is
    ∙ ap (λ o. cons_if_both o (each_of reads (items_view (drop (i + 1) values)))) none)

-- all items were read
pub read_end : {V : Type 0} (reads : Data → Option V) (all : Option (List V)) (values : List Value) (i : ℕ)
    (done : List V) → length values ≤ i → AreRead reads all (drop i values) done → all ≡ Some done
read_end reads all values i done past read =
    let over : each_of reads (items_view (drop i values)) ≡ Some [] =
    ap (λ left. each_of reads (items_view left)) (drop_of_length-le values past) in
    read ∙ ap (option_map (λ more. done ++ more)) over ∙ ap Some (append-nil done)
