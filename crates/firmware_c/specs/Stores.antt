-- What the calls of firmware leave, with the linked store over lent cells, which is the store that C has.
use Rattle.std.specs.Prelude.{◌≡◌, ℕ, ℤ, List, replicate, pos}
use Rattle.store.specs.Lists.{Lists}
use Rattle.values.specs.declared.Value.{Value}
use Rattle.values.specs.declared.Value.TheVariants.{Number}
use Rattle.linked.specs.declared.linked.LinkedStore.{LinkedStore}
use Rattle.values.specs.contracts.ValueBlank.TheImpl as blank
use Rattle.linked.specs.Walk.{lists_of, whole_of, room_of, New, blank_cell}
use Rattle.record.specs.declared.received.Received.{Received}
use Rattle.firmware.specs.declared.reply.Reply.{Reply}
use Rattle.firmware.specs.declared.run_place.RunPlace.{RunPlace}
use Rattle.firmware.specs.declared.run_place.RunPlace.TheVariants.{Closed}
use Rattle.firmware.specs.Places.{Started, Rewound, Granted}
use Rattle.firmware.specs.declared.trying.Trial.{Trial}
use Rattle.firmware.specs.Trials.{Buffers, TrialLeft}
use Rattle.grammar.specs.Token.{Name}

abbrev pub Cells : Type 0
Cells = LinkedStore Value blank.ghosts

abbrev pub lists : Cells → Lists Value
lists store = lists_of (Number (pos 0)) store.cells.now store.made

abbrev pub whole : Cells → ℕ
whole store = whole_of store.cells.now

abbrev pub room : Cells → ℕ
room store = room_of store.cells.now store.made

abbrev pub cost : Cells → ℕ → ℕ
cost store length = 1

abbrev pub started : RunPlace Cells → Received → RunPlace Cells → Received → Reply → Type 0
started = Started lists whole room cost

abbrev pub rewound : RunPlace Cells → List ℤ → RunPlace Cells → Reply → Type 0
rewound = Rewound lists whole room cost

abbrev pub granted : RunPlace Cells → ℕ → RunPlace Cells → Reply → Type 0
granted = Granted lists whole room cost

abbrev pub tries : List ℕ → List Name → Buffers → Buffers → RunPlace Cells → Received → List ℤ → ℕ → RunPlace Cells → Received → Trial → Type 0
tries = TrialLeft lists whole room cost

-- a new store over so many cells, all of them blank, with no run
abbrev pub fresh_over : ℕ → RunPlace Cells → Type 0
fresh_over n place' =
    (store : Cells) ×
    (place' ≡ Closed store) ×
    New (Number (pos 0)) store.cells.now store.made ×
    (store.cells.now ≡ replicate n (blank_cell (Number (pos 0))))
