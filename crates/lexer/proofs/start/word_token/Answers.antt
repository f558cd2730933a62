use Rattle.std.proofs.Common.{◌≡◌, length, arith}
use Rattle.std.proofs.lemmas.Bool.Decides.{nat_tests}
use Rattle.lexer.proofs.Keywords.{word_tested, tested_four, tested_five}
use Rattle.lexer.proofs.start.word_token.Goals as goal
use Rattle.lexer.proofs.start.word_token.Goals.{in_default-via-then-word-lt2}
use Rattle.lexer.proofs.start.word_token.Goals.{in_default-via-else-word-lt2+then-word-lt3+in-105+in_default-1}
use Rattle.lexer.proofs.start.word_token.Goals.{in_default-via-else-word-lt2+then-word-lt3+in_default-1}
use Rattle.lexer.proofs.start.word_token.Goals.{in_default-via-else-word-lt2+else-word-lt3+then-word-lt4+in-102+in-117+in_default-1}
use Rattle.lexer.proofs.start.word_token.Goals.{in_default-via-else-word-lt2+else-word-lt3+then-word-lt4+in-102+in_default-1}
use Rattle.lexer.proofs.start.word_token.Goals.{in_default-via-else-word-lt2+else-word-lt3+then-word-lt4+in-108+in-101+in_default-1}
use Rattle.lexer.proofs.start.word_token.Goals.{in_default-via-else-word-lt2+else-word-lt3+then-word-lt4+in-108+in_default-1}
use Rattle.lexer.proofs.start.word_token.Goals.{in_default-via-else-word-lt2+else-word-lt3+then-word-lt4+in_default-1}
use Rattle.lexer.proofs.start.word_token.Goals.{in_default-via-else-word-lt2+else-word-lt3+else-word-lt4+then-word-lt5+in-116+in-104+in-101+in_default-1}
use Rattle.lexer.proofs.start.word_token.Goals.{in_default-via-else-word-lt2+else-word-lt3+else-word-lt4+then-word-lt5+in-116+in-104+in_default-1}
use Rattle.lexer.proofs.start.word_token.Goals.{in_default-via-else-word-lt2+else-word-lt3+else-word-lt4+then-word-lt5+in-116+in-114+in-117+in_default-1}
use Rattle.lexer.proofs.start.word_token.Goals.{in_default-via-else-word-lt2+else-word-lt3+else-word-lt4+then-word-lt5+in-116+in-114+in_default-1}
use Rattle.lexer.proofs.start.word_token.Goals.{in_default-via-else-word-lt2+else-word-lt3+else-word-lt4+then-word-lt5+in-116+in_default-1}
use Rattle.lexer.proofs.start.word_token.Goals.{in_default-via-else-word-lt2+else-word-lt3+else-word-lt4+then-word-lt5+in-101+in-108+in-115+in_default-1}
use Rattle.lexer.proofs.start.word_token.Goals.{in_default-via-else-word-lt2+else-word-lt3+else-word-lt4+then-word-lt5+in-101+in-108+in_default-1}
use Rattle.lexer.proofs.start.word_token.Goals.{in_default-via-else-word-lt2+else-word-lt3+else-word-lt4+then-word-lt5+in-101+in_default-1}
use Rattle.lexer.proofs.start.word_token.Goals.{in_default-via-else-word-lt2+else-word-lt3+else-word-lt4+then-word-lt5+in_default-1}
use Rattle.lexer.proofs.start.word_token.Goals.{in_default-via-else-word-lt2+else-word-lt3+else-word-lt4+else-word-lt5+then-word-lt6+in-102+in-97+in-108+in-115+in_default-1}
use Rattle.lexer.proofs.start.word_token.Goals.{in_default-via-else-word-lt2+else-word-lt3+else-word-lt4+else-word-lt5+then-word-lt6+in-102+in-97+in-108+in_default-1}
use Rattle.lexer.proofs.start.word_token.Goals.{in_default-via-else-word-lt2+else-word-lt3+else-word-lt4+else-word-lt5+then-word-lt6+in-102+in-97+in_default-1}
use Rattle.lexer.proofs.start.word_token.Goals.{in_default-via-else-word-lt2+else-word-lt3+else-word-lt4+else-word-lt5+then-word-lt6+in-102+in_default-1}
use Rattle.lexer.proofs.start.word_token.Goals.{in_default-via-else-word-lt2+else-word-lt3+else-word-lt4+else-word-lt5+then-word-lt6+in_default-1}
use Rattle.lexer.proofs.start.word_token.Goals.{in_default-via-else-word-lt2+else-word-lt3+else-word-lt4+else-word-lt5+else-word-lt6}

pub returns-in_default-clause-shown : goal.returns-in_default-clause-shown
returns-in_default-clause-shown c =
    rw (word_tested c.args.word.now) (elim c.in_default.branch [
      | in_default-via-then-word-lt2 w ↦ grind (arith, nat_tests)
      | in_default-via-else-word-lt2+then-word-lt3+in-105+in_default-1 w ↦ grind (arith, nat_tests)
      | in_default-via-else-word-lt2+then-word-lt3+in_default-1 w ↦ grind (arith, nat_tests)
      | in_default-via-else-word-lt2+else-word-lt3+then-word-lt4+in-102+in-117+in_default-1 w ↦ grind (arith, nat_tests)
      | in_default-via-else-word-lt2+else-word-lt3+then-word-lt4+in-102+in_default-1 w ↦ grind (arith, nat_tests)
      | in_default-via-else-word-lt2+else-word-lt3+then-word-lt4+in-108+in-101+in_default-1 w ↦ grind (arith, nat_tests)
      | in_default-via-else-word-lt2+else-word-lt3+then-word-lt4+in-108+in_default-1 w ↦ grind (arith, nat_tests)
      | in_default-via-else-word-lt2+else-word-lt3+then-word-lt4+in_default-1 w ↦ grind (arith, nat_tests)
      | in_default-via-else-word-lt2+else-word-lt3+else-word-lt4+then-word-lt5+in-116+in-104+in-101+in_default-1 w ↦
          grind (arith, nat_tests)
      | in_default-via-else-word-lt2+else-word-lt3+else-word-lt4+then-word-lt5+in-116+in-104+in_default-1 w ↦
          grind (arith, nat_tests)
      | in_default-via-else-word-lt2+else-word-lt3+else-word-lt4+then-word-lt5+in-116+in-114+in-117+in_default-1 w ↦
          (let four : length c.args.word.now ≡ 4 = grind (arith, nat_tests) in rw (tested_four c.args.word.now four)
          (grind (arith, nat_tests)))
      | in_default-via-else-word-lt2+else-word-lt3+else-word-lt4+then-word-lt5+in-116+in-114+in_default-1 w ↦
          grind (arith, nat_tests)
      | in_default-via-else-word-lt2+else-word-lt3+else-word-lt4+then-word-lt5+in-116+in_default-1 w ↦
          grind (arith, nat_tests)
      | in_default-via-else-word-lt2+else-word-lt3+else-word-lt4+then-word-lt5+in-101+in-108+in-115+in_default-1 w ↦
          grind (arith, nat_tests)
      | in_default-via-else-word-lt2+else-word-lt3+else-word-lt4+then-word-lt5+in-101+in-108+in_default-1 w ↦
          grind (arith, nat_tests)
      | in_default-via-else-word-lt2+else-word-lt3+else-word-lt4+then-word-lt5+in-101+in_default-1 w ↦
          grind (arith, nat_tests)
      | in_default-via-else-word-lt2+else-word-lt3+else-word-lt4+then-word-lt5+in_default-1 w ↦ grind (arith, nat_tests)
      | in_default-via-else-word-lt2+else-word-lt3+else-word-lt4+else-word-lt5+then-word-lt6+in-102+in-97+in-108+in-115+in_default-1 w ↦ (let five : length c.args.word.now ≡ 5 = grind (arith, nat_tests) in rw (tested_five c.args.word.now five) (grind (arith, nat_tests)))
      | in_default-via-else-word-lt2+else-word-lt3+else-word-lt4+else-word-lt5+then-word-lt6+in-102+in-97+in-108+in_default-1 w ↦ (let five : length c.args.word.now ≡ 5 = grind (arith, nat_tests) in rw (tested_five c.args.word.now five) (grind (arith, nat_tests)))
      | in_default-via-else-word-lt2+else-word-lt3+else-word-lt4+else-word-lt5+then-word-lt6+in-102+in-97+in_default-1
          w ↦ (let five : length c.args.word.now ≡ 5 = grind (arith, nat_tests) in
          rw (tested_five c.args.word.now five) (grind (arith, nat_tests)))
      | in_default-via-else-word-lt2+else-word-lt3+else-word-lt4+else-word-lt5+then-word-lt6+in-102+in_default-1 w ↦
          (let five : length c.args.word.now ≡ 5 = grind (arith, nat_tests) in rw (tested_five c.args.word.now five)
          (grind (arith, nat_tests)))
      | in_default-via-else-word-lt2+else-word-lt3+else-word-lt4+else-word-lt5+then-word-lt6+in_default-1 w ↦
          (let five : length c.args.word.now ≡ 5 = grind (arith, nat_tests) in rw (tested_five c.args.word.now five)
          (grind (arith, nat_tests)))
      | in_default-via-else-word-lt2+else-word-lt3+else-word-lt4+else-word-lt5+else-word-lt6 w ↦
          grind (arith, nat_tests)
    ])
