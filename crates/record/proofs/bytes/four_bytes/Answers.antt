use Rattle.std.proofs.Common.{◌≡◌, ◌+◌, ◌*◌, get_or, ap, ◌∙◌, w32, to_z, rules, tests}
use Rattle.std.specs.Int.{from_be_bytes}
use Rattle.record.proofs.Standing.{four_there}
use Rattle.record.proofs.bytes.four_bytes.Goals as goal

pub returns : goal.returns
returns c =
    let s = c.args.bytes.now in
    let p = c.args.place in
    let there = c.array_at.ensures ∙ four_there s p c.requires in
    let e : c.from_be_bytes.result ≡ to_z w32 (get_or s p 0 * 16777216 + get_or s (p + 1) 0 * 65536 + get_or s
    (p + 1 + 1) 0 * 256 + get_or s (p + 1 + 1 + 1) 0) = c.from_be_bytes.ensures
    ∙ ap (λ l. to_z w32 (from_be_bytes w32 l)) there in
    search (rules, tests)
