-- In a realm whose servers' endpoints stand once, each of them is of one server, and of one kind.
use Rattle.std.proofs.Common.{◌≡◌, ℕ, zero, suc, ◌||◌, Bool, true, false, List, [], ◌∷◌, Option, Some, None, refl, sym, ap, ◌∙◌}
use Rattle.std.proofs.lemmas.Bool.{false≢true, or_parts, or_left, or_right}
use Rattle.std.proofs.lemmas.Option.{same_Some}
use Rattle.std.specs.List.{slice_get, list_any, cons_option}
use Rattle.std.specs.Option.{option_and_then}
use Rattle.roam_address.specs.declared.endpoint.Endpoint.{Endpoint}
use Rattle.roam_conf.specs.Config.{ServerView}
use Rattle.roam_conf.specs.Duplicates.{has_pair, same_endpoint, is_among, is_there_among, server_endpoints}
use Rattle.roam_conf.proofs.EqualPartsLemmas.{endpoint_decides}

pub same_itself : (e : Endpoint) → same_endpoint e e ≡ true
same_itself e = (endpoint_decides e e).1 refl

-- an endpoint that may be there, among those in whose front it stands
pub among_more : (e : Endpoint) (coa : Option Endpoint) (rest : List Endpoint) → is_among rest e ≡ true →
    is_among (cons_option coa rest) e ≡ true
among_more e None rest among = among
among_more e (Some other) rest among = or_right (same_endpoint e other) (is_among rest e) among

pub among_first : (e : Endpoint) (coa : Option Endpoint) (rest : List Endpoint) → coa ≡ Some e →
    is_among (cons_option coa rest) e ≡ true
among_first e None rest is = cc
among_first e (Some other) rest is =
    let same : other ≡ e = same_Some other e is in
    or_left (same_endpoint e other) (is_among rest e) (rw same (same_itself e))

pub once_more : (coa : Option Endpoint) (rest : List Endpoint) →
    has_pair same_endpoint (cons_option coa rest) ≡ false → has_pair same_endpoint rest ≡ false
once_more None rest once = once
once_more (Some e) rest once = (or_parts (list_any (same_endpoint e) rest) (has_pair same_endpoint rest) once).1

pub once_first : (e : Endpoint) (coa : Option Endpoint) (rest : List Endpoint) → coa ≡ Some e →
    has_pair same_endpoint (cons_option coa rest) ≡ false → is_among rest e ≡ false
once_first e None rest is once = cc
once_first e (Some other) rest is once =
    let same : other ≡ e = same_Some other e is in
    rw (← same) (or_parts (list_any (same_endpoint other) rest) (has_pair same_endpoint rest) once).0

-- what an optional thing was taken of is there
pub then_source : {X Y : Type 0} (f : X → Option Y) (o : Option X) (y : Y) → option_and_then f o ≡ Some y → (x : X)
    × (o ≡ Some x) × (f x ≡ Some y)
then_source f None y is = absurd (cc is)
then_source f (Some x) y is = (x, refl, is)

-- where a server takes Access-Requests, or Accounting-Requests
abbrev pub part_of : Bool → ServerView → Option Endpoint
part_of true server = server.auth
part_of false server = server.acct

-- what isn't among some endpoints, of a server of which none is
pub part_apart : (endpoints : List Endpoint) (k : Bool) (server : ServerView) (e : Endpoint) →
    part_of k server ≡ Some e → is_there_among endpoints server.auth || is_there_among endpoints server.acct ≡ false →
    is_among endpoints e ≡ false
part_apart endpoints true server e is apart =
    ap (is_there_among endpoints) (sym is)
    ∙ (or_parts (is_there_among endpoints server.auth) (is_there_among endpoints server.acct) apart).0
part_apart endpoints false server e is apart =
    ap (is_there_among endpoints) (sym is)
    ∙ (or_parts (is_there_among endpoints server.auth) (is_there_among endpoints server.acct) apart).1

module _ (server : ServerView) (rest : List Endpoint) (e : Endpoint) where
  -- a server's endpoint stands among its own
  part_among : (k : Bool) → part_of k server ≡ Some e →
      is_among (cons_option server.auth (cons_option server.acct rest)) e ≡ true
  part_among true is = among_first e server.auth (cons_option server.acct rest) is
  part_among false is =
      among_more e server.auth (cons_option server.acct rest) (among_first e server.acct rest is)

  none_more : (o : Option Endpoint) → is_among (cons_option o rest) e ≡ false → is_among rest e ≡ false
  none_more None none = none
  none_more (Some x) none = (or_parts (same_endpoint e x) (is_among rest e) none).1

  module _ (once : has_pair same_endpoint (cons_option server.auth (cons_option server.acct rest)) ≡ false) where
    once_behind : has_pair same_endpoint (cons_option server.acct rest) ≡ false
    once_behind = once_more server.auth (cons_option server.acct rest) once

    auth_alone : server.auth ≡ Some e → is_among (cons_option server.acct rest) e ≡ false
    auth_alone is = once_first e server.auth (cons_option server.acct rest) is once

    -- and not among the others'
    part_once : (k : Bool) → part_of k server ≡ Some e → is_among rest e ≡ false
    part_once true is = none_more server.acct (auth_alone is)
    part_once false is = once_first e server.acct rest is once_behind

    apart : part_of true server ≡ Some e → part_of false server ≡ Some e → ⊥
    apart p q = false≢true (sym (auth_alone p) ∙ among_first e server.acct rest q)

    one_part : (k l : Bool) → part_of k server ≡ Some e → part_of l server ≡ Some e → k ≡ l
    one_part true true p q = refl
    one_part true false p q = absurd (apart p q)
    one_part false true p q = absurd (apart q p)
    one_part false false p q = refl

servers_among : (servers : List ServerView) (k : Bool) (i : ℕ) (e : Endpoint) →
    option_and_then (part_of k) (slice_get servers i) ≡ Some e → is_among (server_endpoints servers) e ≡ true
servers_among [] k i e at = cc
servers_among (s ∷ ss) k zero e at = part_among s (server_endpoints ss) e k at
servers_among (s ∷ ss) k (suc i) e at =
    among_more e s.auth (cons_option s.acct (server_endpoints ss))
    (among_more e s.acct (server_endpoints ss) (servers_among ss k i e at))

-- two servers with one endpoint are one, and it is of one kind
pub one_server : (servers : List ServerView) (k l : Bool) (i j : ℕ) (e : Endpoint) →
    has_pair same_endpoint (server_endpoints servers) ≡ false →
    option_and_then (part_of k) (slice_get servers i) ≡ Some e →
    option_and_then (part_of l) (slice_get servers j) ≡ Some e → (i ≡ j) × (k ≡ l)
one_server [] k l i j e once p q = cc
one_server (s ∷ ss) k l zero zero e once p q = (refl, one_part s (server_endpoints ss) e once k l p q)
one_server (s ∷ ss) k l zero (suc j) e once p q =
    absurd (false≢true (sym (part_once s (server_endpoints ss) e once k p) ∙ servers_among ss l j e q))
one_server (s ∷ ss) k l (suc i) zero e once p q =
    absurd (false≢true (sym (part_once s (server_endpoints ss) e once l q) ∙ servers_among ss k i e p))
one_server (s ∷ ss) k l (suc i) (suc j) e once p q =
    let more = once_more s.acct (server_endpoints ss) (once_behind s (server_endpoints ss) e once) in
    let same = one_server ss k l i j e more p q in
    (ap suc same.0, same.1)
