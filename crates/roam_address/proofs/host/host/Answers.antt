use Rattle.std.proofs.Common.{Some, None, arith}
use Rattle.std.proofs.lemmas.Str.Pattern.{strip_prefix_char, strip_suffix_char}
use Rattle.roam_address.proofs.HostLemmas.{reads_plain, reads_open, reads_bracketed}
use Rattle.roam_address.proofs.host.host.Goals as goal

-- between brackets (91 and 93)
pub returns-in-Some-strip_suffix : goal.returns-in-Some-strip_suffix
returns-in-Some-strip_suffix c =
    reads_bracketed c.args.text.now c.in-Some.rest.now c.in-Some-strip_suffix.inner.now c.address_of_kind.result
    (strip_prefix_char 91 c.args.text.now (Some c.in-Some.rest) c.in-Some.ensures.cases (omega arith))
    (strip_suffix_char 93 c.in-Some.rest.now (Some c.in-Some-strip_suffix.inner) c.in-Some-strip_suffix.ensures.cases
    (omega arith))
    c.address_of_kind.ensures

-- behind a bracket that isn't closed
pub returns-in-None-strip_suffix : goal.returns-in-None-strip_suffix
returns-in-None-strip_suffix c =
    reads_open c.args.text.now c.in-Some.rest.now
    (strip_prefix_char 91 c.args.text.now (Some c.in-Some.rest) c.in-Some.ensures.cases (omega arith))
    (strip_suffix_char 93 c.in-Some.rest.now None c.in-None-strip_suffix.ensures.cases (omega arith))

-- without one
pub returns-in-None : goal.returns-in-None
returns-in-None c =
    reads_plain c.args.text.now c.address_of_kind-in-None.result
    (strip_prefix_char 91 c.args.text.now None c.in-None.ensures.cases (omega arith)) c.address_of_kind-in-None.ensures
