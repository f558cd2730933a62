use Rattle.std.proofs.Common.{sym, refl, ◌∙◌, arith}
use Rattle.std.proofs.lemmas.Bool.Decides.{nat_tests}
use Rattle.grammar.specs.declared.Mark.TheVariants.{Open, Close, Plus, Equals, AtMost}
use Rattle.grammar.specs.Token.{mark}
use Rattle.grammar.proofs.Lexing.{longest_one, longest_two}
use Rattle.lexer.proofs.Lexemes.{sign_at, number_at, longest_number, no_less, no_token}
use Rattle.lexer.proofs.start.Start.token.Goals as goal
use Rattle.lexer.proofs.start.Start.token.Goals.{in_default-via-in-60+else-followed_by}
use Rattle.lexer.proofs.start.Start.token.Goals.{in_default-via-in_default+then-this-lt48}
use Rattle.lexer.proofs.start.Start.token.Goals.{in_default-via-in_default+else-this-lt48+else-this-lt58+then-this-lt65}
use Rattle.lexer.proofs.start.Start.token.Goals.{in_default-via-in_default+else-this-lt48+else-this-lt58+else-this-lt65+else-this-lt91+then-this-lt97}
use Rattle.lexer.proofs.start.Start.token.Goals.{in_default-via-in_default+else-this-lt48+else-this-lt58+else-this-lt65+else-this-lt91+else-this-lt97+else-this-lt123}

pub returns-in-40 : goal.returns-in-40
returns-in-40 c =
    let made = c.sign.ensures in
    sign_at _ _ c.sign.result made.place _ _ made.stop made.shown
    (longest_one c.args.self.now.text.now c.args.self.now.place 40 (mark Open) c.args.self.now.inside
    (sym c.from.ensures ∙ c.in-40.is) refl (λ _ _. refl))

pub returns-in-41 : goal.returns-in-41
returns-in-41 c =
    let made = c.sign-in-41.ensures in
    sign_at _ _ c.sign-in-41.result made.place _ _ made.stop made.shown
    (longest_one c.args.self.now.text.now c.args.self.now.place 41 (mark Close) c.args.self.now.inside
    (sym c.from.ensures ∙ c.in-41.is) refl (λ _ _. refl))

pub returns-in-43 : goal.returns-in-43
returns-in-43 c =
    let made = c.sign-in-43.ensures in
    sign_at _ _ c.sign-in-43.result made.place _ _ made.stop made.shown
    (longest_one c.args.self.now.text.now c.args.self.now.place 43 (mark Plus) c.args.self.now.inside
    (sym c.from.ensures ∙ c.in-43.is) refl (λ _ _. refl))

pub returns-in-61 : goal.returns-in-61
returns-in-61 c =
    let made = c.sign-in-61.ensures in
    sign_at _ _ c.sign-in-61.result made.place _ _ made.stop made.shown
    (longest_one c.args.self.now.text.now c.args.self.now.place 61 (mark Equals) c.args.self.now.inside
    (sym c.from.ensures ∙ c.in-61.is) refl (λ _ _. refl))

pub returns-in-60 : goal.returns-in-60
returns-in-60 c =
    let made = c.sign-in-60.ensures in
    let next = c.if-followed_by.ensures in
    sign_at _ _ c.sign-in-60.result made.place _ _ made.stop made.shown
    (longest_two c.args.self.now.text.now c.args.self.now.place 60 61 (mark AtMost) next.0 (sym c.from.ensures
    ∙ c.in-60.is) next.1 refl (λ _ _. refl))

pub returns-in-0-to-9 : goal.returns-in-0-to-9
returns-in-0-to-9 c =
    let made = c.number.ensures in
    number_at _ _ c.number.result made.place made.shown made.part (longest_number _ _ _ c.args.self.now.inside
    (grind (arith, nat_tests)) made.run)

pub returns-in_default : goal.returns-in_default
returns-in_default c = (
  refl,
  elim c.in_default.branch [
    | in_default-via-in-60+else-followed_by w ↦ no_less c.args.self.now.text.now c.args.self.now.place
        (sym c.from.ensures ∙ w.in-60.is) w.if-followed_by.ensures
    | in_default-via-in_default+then-this-lt48 w ↦ no_token c.args.self.now.text.now c.args.self.now.place
        (grind (arith, nat_tests)) (grind (arith, nat_tests)) (grind (arith, nat_tests)) (grind (arith, nat_tests))
        (grind (arith, nat_tests)) (grind (arith, nat_tests)) (grind (arith, nat_tests)) (grind (arith, nat_tests))
    | in_default-via-in_default+else-this-lt48+else-this-lt58+then-this-lt65 w ↦ no_token c.args.self.now.text.now
        c.args.self.now.place (grind (arith, nat_tests)) (grind (arith, nat_tests)) (grind (arith, nat_tests))
        (grind (arith, nat_tests)) (grind (arith, nat_tests)) (grind (arith, nat_tests)) (grind (arith, nat_tests))
        (grind (arith, nat_tests))
    | in_default-via-in_default+else-this-lt48+else-this-lt58+else-this-lt65+else-this-lt91+then-this-lt97 w ↦
        no_token c.args.self.now.text.now c.args.self.now.place (grind (arith, nat_tests)) (grind (arith, nat_tests))
        (grind (arith, nat_tests)) (grind (arith, nat_tests)) (grind (arith, nat_tests)) (grind (arith, nat_tests))
        (grind (arith, nat_tests)) (grind (arith, nat_tests))
    | in_default-via-in_default+else-this-lt48+else-this-lt58+else-this-lt65+else-this-lt91+else-this-lt97+else-this-lt123 w ↦ no_token c.args.self.now.text.now c.args.self.now.place (grind (arith, nat_tests)) (grind (arith, nat_tests)) (grind (arith, nat_tests)) (grind (arith, nat_tests)) (grind (arith, nat_tests)) (grind (arith, nat_tests)) (grind (arith, nat_tests)) (grind (arith, nat_tests))
  ],
)
