use Rattle.std.proofs.Common.{◌≡◌, ℕ, take}
use Rattle.syntax.specs.Tree.{Tree}
use Rattle.typing.specs.Accepting.{IsRule}
use Rattle.machine.specs.Reducing.{room_of}
use Rattle.reckoning.specs.Room.{behind}
use Rattle.run.specs.Standing.{IsAt}
use Rattle.law.specs.Turns.{calls_of, started, since}
use Rattle.law.specs.Replies.{Replied}
use Rattle.law.proofs.playing.play.Given as goal

-- the calls so far led to where the run stands
abbrev pub invariant-loop-turn : goal.invariant-loop-turn
invariant-loop-turn g l = record {
  calls : calls_of l.turns ≡ calls_of l.fn.turns;
  rule : l.run.rule ≡ l.fn.rule;
  whole : g.S.Store.whole l.run.store ≡ g.S.Store.whole l.fn.store;
  cost : g.S.Store.cost l.run.store ≡ g.S.Store.cost l.fn.store;
  at : (r : ℕ) (t : Tree) → IsRule l.fn.rule r t →
      IsAt g.S.Store.lists g.S.Store.whole g.S.Store.room g.S.Store.cost l.run t
      (since (started r) (take l.turn-index l.turns)).readings (since (started r) (take l.turn-index l.turns)).granted ×
      Replied (behind r (room_of (g.S.Store.whole l.fn.store) (g.S.Store.cost l.fn.store))) r t (started r)
      (take l.turn-index l.turns);
}
