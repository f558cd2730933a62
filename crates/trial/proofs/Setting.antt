-- What a trial promises of text, rule, buffers and rule place, from what compile and accept came to.
use Rattle.std.proofs.Common.{◌≡◌, ℕ, List, ◌++◌, length, drop, Ok, Err, Result, refl, ap, subst}
use Rattle.syntax.specs.Tree.{Tree}
use Rattle.grammar.specs.Token.{Name}
use Rattle.grammar.specs.Verdict.{Verdict}
use Rattle.grammar.specs.Verdict as verdict
use Rattle.grammar.proofs.Once.{one_verdict}
use Rattle.lexer.specs.declared.fault.LexFault.TheVariants.{NoToken, OutOfRange}
use Rattle.text.specs.Faults.{number, place}
use Rattle.text.specs.declared.fault.CompileFault.{CompileFault}
use Rattle.text.specs.declared.fault.CompileFault.TheVariants.{TooLong, Lex, Unexpected, Unknown, TooManyNodes, NoRoom}
use Rattle.record.specs.declared.fault.RecordFault.TheVariants as received
use Rattle.typing.specs.Accepting.{IsRule, Wiped, cleared}
use Rattle.typing.specs.Faults as rule_fault
use Rattle.typing.specs.Judging.{Judgement, Outcome, accepted, refused, worked}
use Rattle.typing.specs.declared.fault.AcceptFault.{AcceptFault}
use Rattle.typing.specs.declared.fault.AcceptFault.TheVariants.{Record, ShortTable, NoType, LongType}
use Rattle.typing.proofs.Deciding.{one_outcome}
use Rattle.trial.specs.Faults.{number_of, place_of}
use Rattle.trial.specs.declared.fault.TrialFault.{TrialFault}
use Rattle.trial.specs.declared.fault.TrialFault.TheVariants.{Text, Rule, Run}
use Rattle.run.specs.declared.report.Report.{Report}
use Rattle.trial.specs.declared.trying.Written.{Written}
use Rattle.trial.specs.SettingUp.{Lent, SetUp, concluded}
use Rattle.trial.specs.Trying.{Asked, asked, Compiles, Accepts, TextTold, RuleTold, RecordLeft, TableLeft, TypesLeft}
use Rattle.trial.specs.Trying.{PlaceLeft}

-- ── outcomes differ ──

abbrev IsRefusedText : verdict.Outcome → Type 0
IsRefusedText (verdict.refused k q) = Unit {0}
IsRefusedText (verdict.compiled bytes) = ⊥

abbrev bytes_of : verdict.Outcome → List ℕ → List ℕ
bytes_of (verdict.refused k q) otherwise = otherwise
bytes_of (verdict.compiled bytes) otherwise = bytes

abbrev IsRefusedRule : Outcome → Type 0
IsRefusedRule (refused k q) = Unit {0}
IsRefusedRule (accepted r t w) = ⊥

abbrev readings_of : Outcome → ℕ → ℕ
readings_of (refused k q) otherwise = otherwise
readings_of (accepted r t w) otherwise = r

abbrev tree_of : Outcome → Tree → Tree
tree_of (refused k q) otherwise = otherwise
tree_of (accepted r t w) otherwise = t

abbrev type_of : Outcome → List ℕ → List ℕ
type_of (refused k q) otherwise = otherwise
type_of (accepted r t w) otherwise = w

-- ── numbers and places of a trial are those of its calls ──

text_number : (f : CompileFault) → number f ≡ number_of (Text f)
text_number TooLong = refl
text_number (Lex (NoToken p)) = refl
text_number (Lex (OutOfRange p)) = refl
text_number (Unexpected p) = refl
text_number (Unknown p) = refl
text_number TooManyNodes = refl
text_number NoRoom = refl

text_place : (f : CompileFault) → place f ≡ place_of (Text f)
text_place TooLong = refl
text_place (Lex (NoToken p)) = refl
text_place (Lex (OutOfRange p)) = refl
text_place (Unexpected p) = refl
text_place (Unknown p) = refl
text_place TooManyNodes = refl
text_place NoRoom = refl

rule_number : (f : AcceptFault) → rule_fault.number_of f ≡ number_of (Rule f)
rule_number (Record received.Length) = refl
rule_number (Record received.Version) = refl
rule_number (Record received.Readings) = refl
rule_number (Record (received.NoNode p)) = refl
rule_number (Record (received.TooManyNodes p)) = refl
rule_number (Record (received.UnknownKind p)) = refl
rule_number (Record (received.CutShort p)) = refl
rule_number (Record (received.Unbound p)) = refl
rule_number (Record (received.Spare p)) = refl
rule_number ShortTable = refl
rule_number (NoType n) = refl
rule_number LongType = refl

rule_place : (f : AcceptFault) → rule_fault.place_of f ≡ place_of (Rule f)
rule_place (Record received.Length) = refl
rule_place (Record received.Version) = refl
rule_place (Record received.Readings) = refl
rule_place (Record (received.NoNode p)) = refl
rule_place (Record (received.TooManyNodes p)) = refl
rule_place (Record (received.UnknownKind p)) = refl
rule_place (Record (received.CutShort p)) = refl
rule_place (Record (received.Unbound p)) = refl
rule_place (Record (received.Spare p)) = refl
rule_place ShortTable = refl
rule_place (NoType n) = refl
rule_place LongType = refl

-- the result of a trial whose text was compiled and accepted: a success, or a refusal of the run
abbrev pub RunOnly : {A : Type 0} → Result A TrialFault → Type 0
RunOnly (Ok x) = Unit {0}
RunOnly (Err (Text f)) = ⊥
RunOnly (Err (Rule f)) = ⊥
RunOnly (Err (Run f)) = Unit {0}

module _ (s : List ℕ) (book : List Name) (before after : Lent) where
  abbrev given : Asked
  given = asked s book before.out before.first before.second before.types

  compiled_once : (x y : List ℕ) → Compiles given x → Compiles given y → x ≡ y
  compiled_once x y h g = ap (λ o. bytes_of o x) (one_verdict book s (length before.out) (verdict.compiled x)
      (verdict.compiled y) h g)

  not_both : (k q : ℕ) (x : List ℕ) → Verdict book s (length before.out) (verdict.refused k q) → Compiles given x → ⊥
  not_both k q x h g =
      subst IsRefusedText (one_verdict book s (length before.out) (verdict.refused k q) (verdict.compiled x) h g) tt

  -- ── refused ──

  pub never_accepted : (f : TrialFault) → SetUp s book before after (Err f) → (r : ℕ) (t : Tree) (w : List ℕ) →
      Accepts given r t w → ⊥
  never_accepted (Text f) up r t w h = not_both (number f) (place f) h.bytes up.0 h.compiles
  never_accepted (Rule f) up r t w h =
      let same = compiled_once h.bytes up.0 h.compiles up.1.verdict in
      let judged = subst (λ x. Judgement x given.first given.second given.types (accepted r t w)) same h.judged in
      subst IsRefusedRule (one_outcome up.0 given.first given.second given.types
      (refused (rule_fault.number_of f) (rule_fault.place_of f)) (accepted r t w) up.2.0 judged) tt
  never_accepted (Run f) up r t w h = up

  pub refused_rule : (f : TrialFault) → SetUp s book before after (Err f) → (bytes : List ℕ) → Compiles given bytes →
      RuleTold given bytes (Err f)
  refused_rule (Text f) up bytes c = not_both (number f) (place f) bytes up.0 c
  refused_rule (Rule f) up bytes c =
      let same = compiled_once up.0 bytes up.1.verdict c in
      let numbered = subst (λ k. Judgement up.0 given.first given.second given.types
      (refused k (rule_fault.place_of f)))
      (rule_number f) up.2.0 in
      let placed = subst (λ q. Judgement up.0 given.first given.second given.types (refused (number_of (Rule f)) q))
      (rule_place f) numbered in
      subst (λ x. Judgement x given.first given.second given.types (refused (number_of (Rule f)) (place_of (Rule f))))
      same placed
  refused_rule (Run f) up bytes c = absurd up

  pub refused_out : (f : TrialFault) → SetUp s book before after (Err f) → RecordLeft given before.out after.out (Err f)
  refused_out (Text f) up = ap (λ m. m.out) up.1
  refused_out (Rule f) up =
      λ bytes c. subst (λ x. after.out ≡ x ++ drop (length x) before.out) (compiled_once up.0 bytes up.1.verdict c)
      up.1.stands
  refused_out (Run f) up = absurd up

  pub refused_first : (f : TrialFault) → SetUp s book before after (Err f) →
      TableLeft given before.first after.first (Err f)
  refused_first (Text f) up = ap (λ m. m.first) up.1
  refused_first (Rule f) up =
      λ bytes c. subst (λ x. Wiped x (Err f) before.first after.first) (compiled_once up.0 bytes up.1.verdict c) up.2.3
  refused_first (Run f) up = absurd up

  pub refused_second : (f : TrialFault) → SetUp s book before after (Err f) →
      TableLeft given before.second after.second (Err f)
  refused_second (Text f) up = ap (λ m. m.second) up.1
  refused_second (Rule f) up =
      λ bytes c. subst (λ x. Wiped x (Err f) before.second after.second) (compiled_once up.0 bytes up.1.verdict c)
      up.2.4
  refused_second (Run f) up = absurd up

  -- ── compiled and accepted ──

  module _ (written : Written) (up : SetUp s book before after (Ok written)) where
    -- the rule that was accepted
    abbrev pub rule_set : Outcome
    rule_set = accepted up.2.0 up.2.1 up.2.2

    pub is_set : (r : ℕ) (t : Tree) (w : List ℕ) → Accepts given r t w → rule_set ≡ accepted r t w
    is_set r t w h =
        let same = compiled_once h.bytes up.0 h.compiles up.1.verdict in
        let judged = subst (λ x. Judgement x given.first given.second given.types (accepted r t w)) same h.judged in
        one_outcome up.0 given.first given.second given.types rule_set (accepted r t w) up.2.3 judged

    set_out : (bytes : List ℕ) → Compiles given bytes → after.out ≡ bytes ++ drop (length bytes) before.out
    set_out bytes c =
        subst (λ x. after.out ≡ x ++ drop (length x) before.out) (compiled_once up.0 bytes up.1.verdict c) up.1.stands

    set_first : (r : ℕ) (t : Tree) (w : List ℕ) → Accepts given r t w → after.first ≡ cleared (worked t) before.first
    set_first r t w h =
        subst (λ u. after.first ≡ cleared (worked u) before.first) (ap (λ o. tree_of o t) (is_set r t w h)) up.2.7

    set_second : (r : ℕ) (t : Tree) (w : List ℕ) → Accepts given r t w → after.second ≡ cleared (worked t) before.second
    set_second r t w h =
        subst (λ u. after.second ≡ cleared (worked u) before.second) (ap (λ o. tree_of o t) (is_set r t w h)) up.2.8

    set_types : (r : ℕ) (t : Tree) (w : List ℕ) → Accepts given r t w → after.types ≡ w ++ drop (length w) before.types
    set_types r t w h =
        let counted = subst (λ n. after.types ≡ up.2.2 ++ drop n before.types) up.2.5 up.2.6 in
        subst (λ v. after.types ≡ v ++ drop (length v) before.types) (ap (λ o. type_of o w) (is_set r t w h)) counted

    pub set_place : (r : ℕ) (t : Tree) (w : List ℕ) → Accepts given r t w → IsRule after.place r t
    set_place r t w h =
        let e = is_set r t w h in
        subst (λ u. IsRule after.place r u) (ap (λ o. tree_of o t) e)
        (subst (λ q. IsRule after.place q up.2.1) (ap (λ o. readings_of o r) e) up.2.4)

    judged_here : (bytes : List ℕ) → Compiles given bytes → Judgement bytes given.first given.second given.types
        rule_set
    judged_here bytes c =
        subst (λ x. Judgement x given.first given.second given.types rule_set)
        (compiled_once up.0 bytes up.1.verdict c) up.2.3

    pub text_told : (answer : Result Report TrialFault) → RunOnly answer → TextTold given (concluded written answer)
    text_told (Ok report) only = (up.0, up.1.verdict, up.3)
    text_told (Err (Text f)) only = absurd only
    text_told (Err (Rule f)) only = absurd only
    text_told (Err (Run f)) only = (up.0, up.1.verdict)

    pub rule_told : (answer : Result Report TrialFault) → RunOnly answer → (bytes : List ℕ) → Compiles given bytes →
        RuleTold given bytes (concluded written answer)
    rule_told (Ok report) only bytes c = (up.2.0, up.2.1, up.2.2, judged_here bytes c, up.2.5)
    rule_told (Err (Text f)) only bytes c = only
    rule_told (Err (Rule f)) only bytes c = absurd only
    rule_told (Err (Run f)) only bytes c = (up.2.0, up.2.1, up.2.2, judged_here bytes c)

    pub out_left : (answer : Result Report TrialFault) → RunOnly answer →
        RecordLeft given before.out after.out (concluded written answer)
    out_left (Ok report) only = set_out
    out_left (Err (Text f)) only = absurd only
    out_left (Err (Rule f)) only = absurd only
    out_left (Err (Run f)) only = set_out

    pub first_left : (answer : Result Report TrialFault) → RunOnly answer →
        TableLeft given before.first after.first (concluded written answer)
    first_left (Ok report) only = set_first
    first_left (Err (Text f)) only = absurd only
    first_left (Err (Rule f)) only = absurd only
    first_left (Err (Run f)) only = set_first

    pub second_left : (answer : Result Report TrialFault) → RunOnly answer →
        TableLeft given before.second after.second (concluded written answer)
    second_left (Ok report) only = set_second
    second_left (Err (Text f)) only = absurd only
    second_left (Err (Rule f)) only = absurd only
    second_left (Err (Run f)) only = set_second

    pub types_left : (answer : Result Report TrialFault) → RunOnly answer →
        TypesLeft given before.types after.types (concluded written answer)
    types_left (Ok report) only = set_types
    types_left (Err (Text f)) only = absurd only
    types_left (Err (Rule f)) only = absurd only
    types_left (Err (Run f)) only = set_types

    pub place_left : (answer : Result Report TrialFault) → RunOnly answer →
        PlaceLeft given before.place after.place (concluded written answer)
    place_left (Ok report) only = set_place
    place_left (Err (Text f)) only = absurd only
    place_left (Err (Rule f)) only = absurd only
    place_left (Err (Run f)) only = set_place
