use Rattle.std.proofs.Common.{◌≡◌, ◌-◌, ◌<◌, position, ap, sym, ◌∙◌, arith}
use Rattle.roam_address.specs.Addresses.{ip_of}
use Rattle.roam_address.specs.Bits.{width, leading}
use Rattle.roam_address.proofs.LongestLemmas.{NoneLonger, key_eq, is_longest, none_at_all}
use Rattle.roam_address.proofs.prefix_index.PrefixIndex.longest.Goals as goal

-- the first length at which a key is there
pub returns-in-Some : goal.returns-in-Some
returns-in-Some g c = λ prefixes stands.
    let a = c.args.address in
    let ip = ip_of a in
    let keys = c.args.self.now.keys.keys in
    let behind = c.loop-behind.behind in
    let wide = c.width.ensures.value in
    let none_longer : NoneLonger keys a (c.width.result - behind) = λ l longer fits. (
    let back : width ip - (width ip - l) ≡ l = omega (arith, fits) in
    let before : width ip - l < behind = omega (arith, longer, fits, wide) in
    ap (λ n. position (key_eq (leading n ip)) keys) (sym back)
    ∙ c.loop-behind.invariant (width ip - l) before (omega arith)) in
    is_longest prefixes keys stands a (c.width.result - behind) c.in-Some.place none_longer (sym c.in-Some.ensures)

-- at no length
pub returns : goal.returns
returns g c = λ prefixes stands.
    let a = c.args.address in
    let ip = ip_of a in
    let keys = c.args.self.now.keys.keys in
    none_at_all prefixes keys stands a (λ l fits. (
    let back : width ip - (width ip - l) ≡ l = omega (arith, fits) in
    let all : width ip - l < c.loop-behind.behind =
    omega (arith, c.loop-behind-test.false, c.loop-behind.auto.behind-end, c.width-behind-end.ensures.value) in
    ap (λ n. position (key_eq (leading n ip)) keys) (sym back)
    ∙ c.loop-behind.invariant (width ip - l) all (omega arith)))
