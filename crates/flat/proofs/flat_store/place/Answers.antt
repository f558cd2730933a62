use Rattle.std.proofs.Common.{◌+◌, get_or, ap, ◌∙◌, arith}
use Rattle.flat.specs.declared.slot.Slot.TheVariants.{Spare, Element}
use Rattle.flat.specs.Spans.{element_of}
use Rattle.flat.proofs.Copies.{placed}
use Rattle.flat.proofs.flat_store.place.Goals as goal

pub returns : goal.returns
returns g c =
    let blank = g.T.Blank.unwritten in
    rw c.put-2.ensures
    (placed blank c.args.slots.now c.copy.new.slots c.args.start c.args.older.begins c.args.older.length c.args.element
    (omega arith) (omega arith) (c.copy.auto.slots ∙ c.put.auto.slots)
    (λ k h. c.copy.ensures.before k h ∙ ap (λ w. get_or w k Spare) c.put.ensures)
    (λ j h. c.copy.ensures.copied j h
    ∙ ap (λ w. Element (element_of blank (get_or w (c.args.older.begins + j) Spare))) c.put.ensures))
