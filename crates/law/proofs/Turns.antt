-- A run goes on by one call.
use Rattle.std.proofs.Common.{◌≡◌, refl, ap, ℕ, zero, suc, List, [], ◌∷◌, ◌++◌, set, get_or}
use Rattle.syntax.specs.Tree.{Tree}
use Rattle.reckoning.specs.Room.{Room}
use Rattle.reckoning.specs.Reckoning.{reckoned}
use Rattle.law.specs.declared.turn.Call.TheVariants.{Grant}
use Rattle.law.specs.declared.turn.Reply.{Reply}
use Rattle.law.specs.declared.turn.Reply.TheVariants.{Done}
use Rattle.law.specs.Turns.{calls_of, Since, after_call, since}
use Rattle.law.specs.Replies.{IsReply, Replied}
use Rattle.law.specs.declared.turn.Turn.{Turn}

pub since-more : (now : Since) (turns : List Turn) (turn : Turn) → since now (turns ++ turn ∷ []) ≡ after_call
    (since now turns) turn.call turn.reply
since-more now [] turn = refl
since-more now (first ∷ turns) turn = since-more (after_call now first.call first.reply) turns turn

pub replied-more : (room : Room) (r : ℕ) (t : Tree) (now : Since) (turns : List Turn) (turn : Turn)
    → Replied room r t now turns →
    IsReply r (reckoned room (since now turns).readings t (since now turns).granted) turn.call turn.reply →
    Replied room r t now (turns ++ turn ∷ [])
replied-more room r t now [] turn h i = (i, tt)
replied-more room r t now (first ∷ turns) turn h i = (
  h.0,
  replied-more room r t (after_call now first.call first.reply) turns turn h.1 i,
)

pub calls_kept : (turns : List Turn) (i : ℕ) (reply : Reply)
    → calls_of (set turns i (record {
      call = (get_or turns i (record { call = Grant 0; reply = Done })).call;
      reply =
          reply;
    })) ≡ calls_of turns
calls_kept [] i reply = refl
calls_kept (turn ∷ turns) zero reply = refl
calls_kept (turn ∷ turns) (suc i) reply = ap (λ cs. turn.call ∷ cs) (calls_kept turns i reply)
