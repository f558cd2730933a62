-- What C lends behind a pointer, which may be null.
use Rattle.std.specs.Prelude.{ℕ, List, [], ◌∷◌, Bool, false, ◌||◌, Option, Some, None}
use base.Fml.{Fml, Share, ftrue}
use base.Fraction.{full_share}
use lib.Dec.{T}
use mathlib.Core.Bool.{not}
use mir.Val.{ptr_same, vnull}
use types.SemTy.{Arr}
use types.Share.{arr_parts}
use denote.Memory.{mem, shares, part_at}
use denote.RattleType.{RattleType}
use denote.RawPtr.{Ptr, block_ptr, null_ptr, ptr_val, room_at}
use denote.Signature.{static_lft}
use Rattle.store.specs.declared.contract.Store as Store
use Rattle.values.specs.contracts.Value as value
use Rattle.linked.specs.contracts.linked.LinkedStore as linked
use Rattle.linked.specs.contracts.cell.Cell as cell
use Rattle.book.specs.contracts.book.Book as book
use Rattle.typing.specs.contracts.rule.Rule as rule
use Rattle.values.specs.contracts.ValueBlank.TheImpl as blank
use Rattle.linked.specs.contracts.linked.LinkedStoreStore.TheImpl as store
use Rattle.std.below.core.specs.contracts.clone.Clone+copy.TheImpl as copied
use Rattle.firmware.specs.contracts.run_place.RunPlace as run_place
use Rattle.firmware.specs.declared.reply.Reply.{Reply}
use Rattle.firmware.specs.declared.report.Told.{Told}
use Rattle.firmware.specs.declared.fault.CallFault.TheVariants.{NullPointer}
use Rattle.firmware.specs.Replies.{done, misused}
use Rattle.firmware.specs.Reports.{no_run}
use Rattle.firmware.specs.declared.trying.Trial.{Trial}
use Rattle.firmware.specs.Trials.{no_trial}

-- how a rule and a run place lie in memory
abbrev pub rule_row : RattleType
rule_row = rule.the_row

abbrev pub cells_row : RattleType
cells_row = linked.the_row static_lft value.the_row blank.ghosts

-- what the linked store says of itself as a store
abbrev pub run_ghosts : Store.Ghosts cells_row.Denot value.the_row.Denot
run_ghosts = store.ghosts value.the_row blank.ghosts store.no_dict (copied.ghosts value.the_row) store.no_dict

abbrev pub run_row : RattleType
run_row = run_place.the_row cells_row run_ghosts

abbrev pub cell_row : RattleType
cell_row = cell.the_row value.the_row

abbrev pub book_row : RattleType
book_row = book.the_row

abbrev pub BookAt : Type 0
BookAt = book_row.Denot

abbrev pub RuleAt : Type 0
RuleAt = rule_row.Denot

abbrev pub CellAt : Type 0
CellAt = cell_row.Denot

abbrev pub RunAt : Type 0
RunAt = run_row.Denot

-- whether a pointer is null, as the machine tells it
abbrev pub is_null : Ptr → Bool
is_null p = ptr_same (ptr_val p) vnull

abbrev any_from : Bool → List Ptr → Bool
any_from b [] = b
any_from b (p ∷ ps) = any_from (b || is_null p) ps

-- whether one of these pointers is null
abbrev pub any_null : List Ptr → Bool
any_null = any_from false

-- this one where it is true, else that one
abbrev pub unless : Bool → Type 0 → Type 0 → Type 0
unless b A B = (T b → A) × (T (not b) → B)

-- a place with this value; nothing is lent at null
abbrev pub place : (R : RattleType) → R.Denot → Ptr → Fml
place R x (block_ptr b o) = part_at R full_share x b o
place R x null_ptr = ftrue

-- room for a value, whatever stands there
abbrev pub vacant : RattleType → Ptr → Fml
vacant R (block_ptr b o) = room_at R (block_ptr b o)
vacant R null_ptr = ftrue

-- where a place was to be made: it stands there with this value, or there is room as before
abbrev pub made : (R : RattleType) → Option R.Denot → Ptr → Fml
made R None p = vacant R p
made R (Some x) p = place R x p

-- what comes back where no place was made
abbrev pub comes_back : {X : Type 0} → Option X → Fml → Fml
comes_back None F = F
comes_back (Some x) F = ftrue

-- a place was made, with such a value
abbrev pub IsMade : {X : Type 0} → Option X → (X → Type 0) → Type 0
IsMade None P = ⊥
IsMade (Some x) P = P x

-- none was
abbrev pub IsNotMade : {X : Type 0} → Option X → Type 0
IsNotMade None = Unit {0}
IsNotMade (Some x) = ⊥

-- so many elements side by side, to be read; others may read them too
abbrev pub shown : (R : RattleType) → Share → ℕ → List R.Denot → Ptr → Fml
shown R q n xs (block_ptr b o) = (arr_parts (shares R) n).part q xs b o
shown R q n xs null_ptr = ftrue

-- so many elements side by side, to be written
abbrev pub slots : (R : RattleType) → ℕ → List R.Denot → Ptr → Fml
slots R n xs (block_ptr b o) = (Arr (mem R) n).own_at xs b o
slots R n xs null_ptr = ftrue

-- the reply of a call that is done and answers no count
abbrev pub done_reply : Reply
done_reply = done 0

-- the replies where a pointer is null
abbrev pub null_reply : Reply
null_reply = misused NullPointer

abbrev pub null_told : Told
null_told = no_run

abbrev pub null_trial : Trial
null_trial = no_trial null_reply
