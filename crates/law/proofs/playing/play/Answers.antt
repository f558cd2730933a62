use Rattle.std.proofs.Common.{arith, ◌≡◌, refl, sym, ◌∙◌, ap, subst, ℕ, ◌+◌, ◌<◌, List, take, length, set, get_or}
use Rattle.std.proofs.lemmas.List.{take_more_set, take_all}
use Rattle.reckoning.specs.Room.{behind}
use Rattle.reckoning.specs.Reckoning.{reckoned}
use Rattle.machine.specs.Reducing.{room_of}
use Rattle.run.specs.Standing.{IsAt}
use Rattle.law.specs.Turns.{started, since, after_call}
use Rattle.law.specs.Replies.{IsReply, Replied}
use Rattle.law.specs.declared.turn.Turn.{Turn}
use Rattle.law.specs.declared.turn.Reply.{Reply}
use Rattle.law.specs.declared.turn.Call.TheVariants.{Grant}
use Rattle.law.specs.declared.turn.Reply.TheVariants.{Done}
use Rattle.std.proofs.lemmas.List.{length-replicate}
use Rattle.run.specs.Standing.{reported}
use Rattle.law.specs.Law.{played, HoldsOf}
use Rattle.law.proofs.Following.{held, since_length}
use Rattle.law.proofs.Ending.{ended}
use Rattle.law.proofs.Turns.{since-more, replied-more, calls_kept}
use Rattle.law.proofs.playing.play.Goals as goal

abbrev turn_at : List Turn → ℕ → Reply → Turn
turn_at turns i reply = record { call = (get_or turns i (record { call = Grant 0; reply = Done })).call; reply = reply }

pub loop-turn-init : goal.loop-turn-init
loop-turn-init g c =
    record {
      calls = refl;
      rule = c.start-run.ensures.rule;
      whole = c.start-run.ensures.whole;
      cost = c.start-run.ensures.cost;
      at = λ r t h. (c.start-run.ensures.begun r t h, tt);
    }

pub loop-turn-preserved : goal.loop-turn-preserved
loop-turn-preserved g c =
    let i = c.loop-turn.turn-index in
    let turns = c.loop-turn.turns in
    let k = c.loop-turn.invariant in
    let a = c.reply_to-turn.ensures in
    let inside : i < length turns = subst (λ n. i < n) (sym c.loop-turn.auto.turns) c.loop-turn-test.true in
    record {
      calls = calls_kept turns i c.reply_to-turn.result ∙ k.calls;
      rule = a.rule ∙ k.rule;
      whole = a.whole ∙ k.whole;
      cost = a.cost ∙ k.cost;
      at = λ r t h.
          let old = k.at r t h in
          let now = since (started r) (take i turns) in
          let new = a.called t now old.0 in
          let here = room_of (g.S.Store.whole c.loop-turn.run.store) (g.S.Store.cost c.loop-turn.run.store) in
          let first = room_of (g.S.Store.whole c.args.store) (g.S.Store.cost c.args.store) in
          let same : length now.readings ≡ r = sym old.0.rule.1 ∙ ap (λ x. x.readings) k.rule ∙ h.1 in
          let room : here ≡ first =
          ap (λ w. room_of w (g.S.Store.cost c.loop-turn.run.store)) k.whole
          ∙ ap (λ f. room_of (g.S.Store.whole c.args.store) f) k.cost in
          let turn' = turn_at turns i c.reply_to-turn.result in
          let due : IsReply r (reckoned (behind r first) now.readings t now.granted) turn'.call turn'.reply =
          subst (λ x. IsReply r (reckoned (behind r x) now.readings t now.granted) turn'.call turn'.reply) room
          (subst (λ n. IsReply n (reckoned (behind n here) now.readings t now.granted) turn'.call turn'.reply) same
          new.1) in
          let front = take_more_set turns i turn' inside in
          let later : since (started r) (take (i + 1) (set turns i turn')) ≡ after_call now turn'.call turn'.reply =
          ap (since (started r)) front ∙ since-more (started r) (take i turns) turn' in (
            subst (λ x. IsAt g.S.Store.lists g.S.Store.whole g.S.Store.room g.S.Store.cost c.reply_to-turn.new.run t
                x.readings x.granted) (sym later) new.0,
            subst (λ ts. Replied (behind r first) r t (started r) ts) (sym front)
                (replied-more (behind r first) r t (started r) (take i turns) turn' old.1 due),
          );
    }

pub returns-clause-law : goal.returns-clause-law
returns-clause-law g c r t is =
    let k = c.loop-turn.invariant in
    let run = c.loop-turn.run in
    let turns = c.loop-turn.turns in
    let over = c.loop-turn-test.false in
    let long = c.loop-turn.auto.turns in
    let whole_list : take c.loop-turn.turn-index turns ≡ turns = take_all c.loop-turn.turn-index turns (omega arith) in
    let first = room_of (g.S.Store.whole c.args.store) (g.S.Store.cost c.args.store) in
    let here = room_of (g.S.Store.whole run.store) (g.S.Store.cost run.store) in
    let room : here ≡ first = ap (λ w. room_of w (g.S.Store.cost run.store)) k.whole
    ∙ ap (λ f. room_of (g.S.Store.whole c.args.store) f) k.cost in
    let at = subst (λ ts. IsAt g.S.Store.lists g.S.Store.whole g.S.Store.room g.S.Store.cost run t
    (since (started r) ts).readings (since (started r) ts).granted) whole_list (k.at r t is).0 in
    let replies = subst (λ ts. Replied (behind r first) r t (started r) ts) whole_list (k.at r t is).1 in
    let same = since_length (behind r first) r t (started r) turns (length-replicate r _) replies in
    let ending = ended g.S.Store.lists g.S.Store.whole g.S.Store.room g.S.Store.cost run r t turns at same in
    let here_play = played here r t run.rule.nodes.items turns (reported run) (g.S.Store.room run.store)
    (g.S.Store.lists run.store) in
    let holds = held here_play (record {
      typed = c.start-run.ensures.typed r t is;
      replies = subst (λ x. Replied (behind r x) r t (started r) turns) (sym room) replies;
      reckoned = ending;
    }) in
    let moved : here_play ≡ played first r t c.args.rule.nodes.items turns c.ask-report.result
    (g.S.Store.room c.close-rule.result.store) (g.S.Store.lists c.close-rule.result.store) =
    ap (λ x. played x r t run.rule.nodes.items turns (reported run) (g.S.Store.room run.store)
    (g.S.Store.lists run.store)) room ∙
    ap (λ x. played first r t x.nodes.items turns (reported run) (g.S.Store.room run.store)
    (g.S.Store.lists run.store)) k.rule ∙
    ap (λ x. played first r t c.args.rule.nodes.items turns x (g.S.Store.room run.store) (g.S.Store.lists run.store))
    (sym c.ask-report.ensures) ∙
    ap (λ x. played first r t c.args.rule.nodes.items turns c.ask-report.result (g.S.Store.room x)
    (g.S.Store.lists x)) (sym c.close-rule.ensures.store) in
    subst (λ p. HoldsOf p) moved holds
