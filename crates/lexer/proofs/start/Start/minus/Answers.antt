use Rattle.std.proofs.Common.{◌≡◌, ◌+◌, ◌<◌, length, get_or, sym, refl, rules, tests}
use Rattle.grammar.specs.declared.Mark.TheVariants.{Arrow}
use Rattle.grammar.specs.Token.{mark}
use Rattle.grammar.proofs.Lexing.{longest_two}
use Rattle.lexer.proofs.Lexemes.{sign_at, number_at, longest_negative, no_minus}
use Rattle.lexer.proofs.start.Start.minus.Goals as goal
use Rattle.lexer.proofs.start.Start.minus.Goals.{in_default-via-in-Some+else-has, in_default-via-in_default}

pub returns-then-followed_by : goal.returns-then-followed_by
returns-then-followed_by c =
    let next = c.if-followed_by.ensures in
    let made = c.sign.ensures in
    sign_at _ _ c.sign.result made.place _ _ made.stop made.shown
    (longest_two c.args.self.now.text.now c.args.self.now.place 45 62 (mark Arrow) next.0 c.requires next.1 refl
    (λ _ _. refl))

pub returns-in-Some : goal.returns-in-Some
returns-in-Some c =
    let made = c.number.ensures in
    let s = c.args.self.now.text.now in
    let place = c.args.self.now.place in
    let more : place + 1 < length s = search (rules, tests) in
    let is : c.in-Some.byte.now ≡ get_or s (place + 1) 0 = search (rules, tests) in
    number_at _ _ c.number.result made.place made.shown made.part (longest_negative s place _ more c.requires
    (rw (sym is) (sym c.if-has.ensures)) made.run)

pub returns-in_default : goal.returns-in_default
returns-in_default c = (
  refl,
  no_minus c.args.self.now.text.now c.args.self.now.place c.requires c.if-followed_by.ensures
      (λ lt. elim c.in_default.branch [
        | in_default-via-in-Some+else-has w ↦ (let is : w.in-Some.byte.now ≡ get_or c.args.self.now.text.now
            (c.args.self.now.place + 1) 0 = search (rules, tests) in
            rw (sym is) (sym w.if-has.ensures))
        | in_default-via-in_default w ↦ absurd (search (rules, tests))
      ]),
)
