use Rattle.std.proofs.Common.{sym, subst, arith}
use Rattle.grammar.specs.Reading.{Longest}
use Rattle.grammar.proofs.Lexing.{longest_word}
use Rattle.lexer.proofs.start.Start.word.Goals as goal

pub returns-clause-longest : goal.returns-clause-longest
returns-clause-longest c =
    let run = c.run-stop.ensures in
    subst (Longest c.args.self.now.text.now c.args.self.now.place c.run-stop.result)
    (sym c.word_token-token.ensures.shown) (longest_word c.args.self.now.text.now c.args.self.now.place
    c.run-stop.result (omega (arith, run.from)) run.inside c.requires run.of_kind run.stops)
