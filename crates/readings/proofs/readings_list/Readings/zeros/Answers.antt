use Rattle.std.proofs.Common.{◌≤◌, replicate, pos, ap, ◌∙◌, arith}
use Rattle.std.proofs.lemmas.List.{take-replicate}
use Rattle.readings.proofs.readings_list.Readings.zeros.Goals as goal

pub returns : goal.returns
returns c =
    let few : c.min.result ≤ 8 = omega arith in
    take-replicate c.min.result 8 (pos 0) few ∙ ap (λ n. replicate n (pos 0)) (omega arith)
