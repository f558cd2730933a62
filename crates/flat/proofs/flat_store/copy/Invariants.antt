use Rattle.std.proofs.Common.{◌≡◌, ℕ, ◌+◌, ◌<◌, get_or}
use Rattle.flat.specs.declared.slot.Slot.TheVariants.{Spare, Element}
use Rattle.flat.specs.Spans.{element_of}
use Rattle.flat.proofs.flat_store.copy.Given as goal

abbrev pub invariant-loop-j : goal.invariant-loop-j
invariant-loop-j g l =
    ((k : ℕ) → k < l.to → get_or l.slots k Spare ≡ get_or l.initial.slots k Spare)
    × ((i : ℕ) → i < l.j → get_or l.slots (l.to + i) Spare ≡ Element (element_of g.T.Blank.unwritten
    (get_or l.initial.slots (l.from + i) Spare)))
