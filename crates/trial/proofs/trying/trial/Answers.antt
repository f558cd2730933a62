use Rattle.std.proofs.Common.{sym, subst, IfOk}
use Rattle.book.specs.Books.{names}
use Rattle.machine.specs.Reducing.{room_of}
use Rattle.trial.specs.Running.{run_answer, run_end, RunAnswers, RunLeaves, Tells}
use Rattle.trial.specs.SettingUp.{lent}
use Rattle.trial.specs.Trying.{asked, TextTold, RuleTold, RecordLeft, TableLeft, TypesLeft, PlaceLeft, StoreKept}
use Rattle.trial.proofs.Setting.{never_accepted, refused_rule, refused_out, refused_first, refused_second, text_told}
use Rattle.trial.proofs.Setting.{rule_told, out_left, first_left, second_left, types_left, place_left, set_place}
use Rattle.trial.proofs.Standing.{run_only, answers_concluded, tells_concluded, store_run_in}
use Rattle.trial.proofs.trying.trial.Goals as goal

pub returns-in-Err-clause-rule : goal.returns-in-Err-clause-rule
returns-in-Err-clause-rule g c =
    let before = lent c.args.out.now c.args.first.now c.args.second.now c.args.types.now c.args.place in
    let after = lent c.set_up.new.out c.set_up.new.first c.set_up.new.second c.set_up.new.types c.set_up.new.place in
    refused_rule c.args.text.now (names c.args.book.now) before after c.in-Err.fault c.in-Err.ensures

pub returns-in-Err-clause-out_left : goal.returns-in-Err-clause-out_left
returns-in-Err-clause-out_left g c =
    let before = lent c.args.out.now c.args.first.now c.args.second.now c.args.types.now c.args.place in
    let after = lent c.set_up.new.out c.set_up.new.first c.set_up.new.second c.set_up.new.types c.set_up.new.place in
    refused_out c.args.text.now (names c.args.book.now) before after c.in-Err.fault c.in-Err.ensures

pub returns-in-Err-clause-first_left : goal.returns-in-Err-clause-first_left
returns-in-Err-clause-first_left g c =
    let before = lent c.args.out.now c.args.first.now c.args.second.now c.args.types.now c.args.place in
    let after = lent c.set_up.new.out c.set_up.new.first c.set_up.new.second c.set_up.new.types c.set_up.new.place in
    refused_first c.args.text.now (names c.args.book.now) before after c.in-Err.fault c.in-Err.ensures

pub returns-in-Err-clause-second_left : goal.returns-in-Err-clause-second_left
returns-in-Err-clause-second_left g c =
    let before = lent c.args.out.now c.args.first.now c.args.second.now c.args.types.now c.args.place in
    let after = lent c.set_up.new.out c.set_up.new.first c.set_up.new.second c.set_up.new.types c.set_up.new.place in
    refused_second c.args.text.now (names c.args.book.now) before after c.in-Err.fault c.in-Err.ensures

pub returns-in-Err-clause-run : goal.returns-in-Err-clause-run
returns-in-Err-clause-run g c r t w h =
    let before = lent c.args.out.now c.args.first.now c.args.second.now c.args.types.now c.args.place in
    let after = lent c.set_up.new.out c.set_up.new.first c.set_up.new.second c.set_up.new.types c.set_up.new.place in
    absurd (never_accepted c.args.text.now (names c.args.book.now) before after c.in-Err.fault c.in-Err.ensures r t w h)

pub returns-in-Err-clause-store_left : goal.returns-in-Err-clause-store_left
returns-in-Err-clause-store_left g c r t w h =
    let before = lent c.args.out.now c.args.first.now c.args.second.now c.args.types.now c.args.place in
    let after = lent c.set_up.new.out c.set_up.new.first c.set_up.new.second c.set_up.new.types c.set_up.new.place in
    absurd (never_accepted c.args.text.now (names c.args.book.now) before after c.in-Err.fault c.in-Err.ensures r t w h)

pub returns-in-Ok-clause-text : goal.returns-in-Ok-clause-text
returns-in-Ok-clause-text g c =
    let before = lent c.args.out.now c.args.first.now c.args.second.now c.args.types.now c.args.place in
    let after = lent c.set_up.new.out c.set_up.new.first c.set_up.new.second c.set_up.new.types c.set_up.new.place in
    let room = room_of (g.S.Store.whole c.args.store) (g.S.Store.cost c.args.store) in
    let written = c.in-Ok.written in
    let up = c.in-Ok.ensures in
    let answer = c.run_through-rule.result.report in
    let only = run_only (run_answer room up.2.0 up.2.1 c.args.readings.now c.args.steps) answer
    (c.run_through-rule.ensures.answer up.2.0 up.2.1 up.2.4) in
    let given = asked c.args.text.now (names c.args.book.now) c.args.out.now c.args.first.now c.args.second.now
    c.args.types.now in
    subst (λ x. TextTold given x) (sym c.conclude.ensures) (text_told c.args.text.now (names c.args.book.now) before
    after written up answer only)

pub returns-in-Ok-clause-rule : goal.returns-in-Ok-clause-rule
returns-in-Ok-clause-rule g c bytes k =
    let before = lent c.args.out.now c.args.first.now c.args.second.now c.args.types.now c.args.place in
    let after = lent c.set_up.new.out c.set_up.new.first c.set_up.new.second c.set_up.new.types c.set_up.new.place in
    let room = room_of (g.S.Store.whole c.args.store) (g.S.Store.cost c.args.store) in
    let written = c.in-Ok.written in
    let up = c.in-Ok.ensures in
    let answer = c.run_through-rule.result.report in
    let only = run_only (run_answer room up.2.0 up.2.1 c.args.readings.now c.args.steps) answer
    (c.run_through-rule.ensures.answer up.2.0 up.2.1 up.2.4) in
    let given = asked c.args.text.now (names c.args.book.now) c.args.out.now c.args.first.now c.args.second.now
    c.args.types.now in
    subst (λ x. RuleTold given bytes x) (sym c.conclude.ensures) (rule_told c.args.text.now (names c.args.book.now)
    before after written up answer only bytes k)

pub returns-in-Ok-clause-run : goal.returns-in-Ok-clause-run
returns-in-Ok-clause-run g c r t w h =
    let before = lent c.args.out.now c.args.first.now c.args.second.now c.args.types.now c.args.place in
    let after = lent c.set_up.new.out c.set_up.new.first c.set_up.new.second c.set_up.new.types c.set_up.new.place in
    let room = room_of (g.S.Store.whole c.args.store) (g.S.Store.cost c.args.store) in
    let written = c.in-Ok.written in
    let up = c.in-Ok.ensures in
    let answer = c.run_through-rule.result.report in
    let only = run_only (run_answer room up.2.0 up.2.1 c.args.readings.now c.args.steps) answer
    (c.run_through-rule.ensures.answer up.2.0 up.2.1 up.2.4) in
    let given = asked c.args.text.now (names c.args.book.now) c.args.out.now c.args.first.now c.args.second.now
    c.args.types.now in
    subst (λ x. RunAnswers (run_answer room r t c.args.readings.now c.args.steps) x) (sym c.conclude.ensures)
    (answers_concluded written (run_answer room r t c.args.readings.now c.args.steps) answer
    (c.run_through-rule.ensures.answer r t (set_place c.args.text.now (names c.args.book.now) before after written up
    r t w h)))

pub returns-in-Ok-clause-report : goal.returns-in-Ok-clause-report
returns-in-Ok-clause-report g c r t w h =
    let before = lent c.args.out.now c.args.first.now c.args.second.now c.args.types.now c.args.place in
    let after = lent c.set_up.new.out c.set_up.new.first c.set_up.new.second c.set_up.new.types c.set_up.new.place in
    let room = room_of (g.S.Store.whole c.args.store) (g.S.Store.cost c.args.store) in
    let written = c.in-Ok.written in
    let up = c.in-Ok.ensures in
    let answer = c.run_through-rule.result.report in
    let only = run_only (run_answer room up.2.0 up.2.1 c.args.readings.now c.args.steps) answer
    (c.run_through-rule.ensures.answer up.2.0 up.2.1 up.2.4) in
    let given = asked c.args.text.now (names c.args.book.now) c.args.out.now c.args.first.now c.args.second.now
    c.args.types.now in
    let end = run_end room r t c.args.readings.now c.args.steps in
    subst (λ x. IfOk x (λ done. Tells done.report end)) (sym c.conclude.ensures)
    (tells_concluded written end answer (c.run_through-rule.ensures.report r t
    (set_place c.args.text.now (names c.args.book.now) before after written up r t w h)))

pub returns-in-Ok-clause-out_left : goal.returns-in-Ok-clause-out_left
returns-in-Ok-clause-out_left g c =
    let before = lent c.args.out.now c.args.first.now c.args.second.now c.args.types.now c.args.place in
    let after = lent c.set_up.new.out c.set_up.new.first c.set_up.new.second c.set_up.new.types c.set_up.new.place in
    let room = room_of (g.S.Store.whole c.args.store) (g.S.Store.cost c.args.store) in
    let written = c.in-Ok.written in
    let up = c.in-Ok.ensures in
    let answer = c.run_through-rule.result.report in
    let only = run_only (run_answer room up.2.0 up.2.1 c.args.readings.now c.args.steps) answer
    (c.run_through-rule.ensures.answer up.2.0 up.2.1 up.2.4) in
    let given = asked c.args.text.now (names c.args.book.now) c.args.out.now c.args.first.now c.args.second.now
    c.args.types.now in
    subst (λ x. RecordLeft given before.out after.out x) (sym c.conclude.ensures)
    (out_left c.args.text.now (names c.args.book.now) before after written up answer only)

pub returns-in-Ok-clause-first_left : goal.returns-in-Ok-clause-first_left
returns-in-Ok-clause-first_left g c =
    let before = lent c.args.out.now c.args.first.now c.args.second.now c.args.types.now c.args.place in
    let after = lent c.set_up.new.out c.set_up.new.first c.set_up.new.second c.set_up.new.types c.set_up.new.place in
    let room = room_of (g.S.Store.whole c.args.store) (g.S.Store.cost c.args.store) in
    let written = c.in-Ok.written in
    let up = c.in-Ok.ensures in
    let answer = c.run_through-rule.result.report in
    let only = run_only (run_answer room up.2.0 up.2.1 c.args.readings.now c.args.steps) answer
    (c.run_through-rule.ensures.answer up.2.0 up.2.1 up.2.4) in
    let given = asked c.args.text.now (names c.args.book.now) c.args.out.now c.args.first.now c.args.second.now
    c.args.types.now in
    subst (λ x. TableLeft given before.first after.first x) (sym c.conclude.ensures)
    (first_left c.args.text.now (names c.args.book.now) before after written up answer only)

pub returns-in-Ok-clause-second_left : goal.returns-in-Ok-clause-second_left
returns-in-Ok-clause-second_left g c =
    let before = lent c.args.out.now c.args.first.now c.args.second.now c.args.types.now c.args.place in
    let after = lent c.set_up.new.out c.set_up.new.first c.set_up.new.second c.set_up.new.types c.set_up.new.place in
    let room = room_of (g.S.Store.whole c.args.store) (g.S.Store.cost c.args.store) in
    let written = c.in-Ok.written in
    let up = c.in-Ok.ensures in
    let answer = c.run_through-rule.result.report in
    let only = run_only (run_answer room up.2.0 up.2.1 c.args.readings.now c.args.steps) answer
    (c.run_through-rule.ensures.answer up.2.0 up.2.1 up.2.4) in
    let given = asked c.args.text.now (names c.args.book.now) c.args.out.now c.args.first.now c.args.second.now
    c.args.types.now in
    subst (λ x. TableLeft given before.second after.second x) (sym c.conclude.ensures) (second_left c.args.text.now
    (names c.args.book.now) before after written up answer only)

pub returns-in-Ok-clause-types_left : goal.returns-in-Ok-clause-types_left
returns-in-Ok-clause-types_left g c =
    let before = lent c.args.out.now c.args.first.now c.args.second.now c.args.types.now c.args.place in
    let after = lent c.set_up.new.out c.set_up.new.first c.set_up.new.second c.set_up.new.types c.set_up.new.place in
    let room = room_of (g.S.Store.whole c.args.store) (g.S.Store.cost c.args.store) in
    let written = c.in-Ok.written in
    let up = c.in-Ok.ensures in
    let answer = c.run_through-rule.result.report in
    let only = run_only (run_answer room up.2.0 up.2.1 c.args.readings.now c.args.steps) answer
    (c.run_through-rule.ensures.answer up.2.0 up.2.1 up.2.4) in
    let given = asked c.args.text.now (names c.args.book.now) c.args.out.now c.args.first.now c.args.second.now
    c.args.types.now in
    subst (λ x. TypesLeft given before.types after.types x) (sym c.conclude.ensures)
    (types_left c.args.text.now (names c.args.book.now) before after written up answer only)

pub returns-in-Ok-clause-place_left : goal.returns-in-Ok-clause-place_left
returns-in-Ok-clause-place_left g c =
    let before = lent c.args.out.now c.args.first.now c.args.second.now c.args.types.now c.args.place in
    let after = lent c.set_up.new.out c.set_up.new.first c.set_up.new.second c.set_up.new.types c.set_up.new.place in
    let room = room_of (g.S.Store.whole c.args.store) (g.S.Store.cost c.args.store) in
    let written = c.in-Ok.written in
    let up = c.in-Ok.ensures in
    let answer = c.run_through-rule.result.report in
    let only = run_only (run_answer room up.2.0 up.2.1 c.args.readings.now c.args.steps) answer
    (c.run_through-rule.ensures.answer up.2.0 up.2.1 up.2.4) in
    let given = asked c.args.text.now (names c.args.book.now) c.args.out.now c.args.first.now c.args.second.now
    c.args.types.now in
    subst (λ x. PlaceLeft given c.args.place x c.conclude.result) (sym c.run_through-rule.ensures.rule)
    (subst (λ x. PlaceLeft given before.place after.place x) (sym c.conclude.ensures)
    (place_left c.args.text.now (names c.args.book.now) before after written up answer only))

pub returns-in-Ok-clause-store_kept : goal.returns-in-Ok-clause-store_kept
returns-in-Ok-clause-store_kept g c =
    let before = lent c.args.out.now c.args.first.now c.args.second.now c.args.types.now c.args.place in
    let after = lent c.set_up.new.out c.set_up.new.first c.set_up.new.second c.set_up.new.types c.set_up.new.place in
    let room = room_of (g.S.Store.whole c.args.store) (g.S.Store.cost c.args.store) in
    let written = c.in-Ok.written in
    let up = c.in-Ok.ensures in
    let answer = c.run_through-rule.result.report in
    let only = run_only (run_answer room up.2.0 up.2.1 c.args.readings.now c.args.steps) answer
    (c.run_through-rule.ensures.answer up.2.0 up.2.1 up.2.4) in
    let given = asked c.args.text.now (names c.args.book.now) c.args.out.now c.args.first.now c.args.second.now
    c.args.types.now in
    subst (λ x. StoreKept c.args.store c.run_through-rule.result.store x) (sym c.conclude.ensures)
    (store_run_in written c.args.store c.run_through-rule.result.store answer only)

pub returns-in-Ok-clause-store_left : goal.returns-in-Ok-clause-store_left
returns-in-Ok-clause-store_left g c r t w h =
    let before = lent c.args.out.now c.args.first.now c.args.second.now c.args.types.now c.args.place in
    let after = lent c.set_up.new.out c.set_up.new.first c.set_up.new.second c.set_up.new.types c.set_up.new.place in
    let room = room_of (g.S.Store.whole c.args.store) (g.S.Store.cost c.args.store) in
    let written = c.in-Ok.written in
    let up = c.in-Ok.ensures in
    let answer = c.run_through-rule.result.report in
    let only = run_only (run_answer room up.2.0 up.2.1 c.args.readings.now c.args.steps) answer
    (c.run_through-rule.ensures.answer up.2.0 up.2.1 up.2.4) in
    let given = asked c.args.text.now (names c.args.book.now) c.args.out.now c.args.first.now c.args.second.now
    c.args.types.now in
    subst (λ x. RunLeaves room r t x.nodes.items c.args.readings.now c.args.steps
    (g.S.Store.room c.run_through-rule.result.store)
    (g.S.Store.lists c.run_through-rule.result.store)) (sym c.run_through-rule.ensures.rule)
    (c.run_through-rule.ensures.leaves r t (set_place c.args.text.now (names c.args.book.now) before after written up
    r t w h))
