-- the cells are lent for good, and a new run place over them is written into the room that C lends
use Rattle.std.proofs.Common.{◌≡◌, ℕ, List, [], ◌∷◌, ◌++◌, length, get_or, map, Option, Some, None, refl, sym, subst}
use Rattle.std.proofs.Common.{w64, MutBor}
use Rattle.std.proofs.raw_atomic.Walks.{proved}
use base.Fraction.{full_share}
use base.Logic.{sep, via, id⊢}
use base.Fml.{ftrue, flent, froom}
use mir.Syntax.{static, Ty, ty_unit, Local, local}
use contract.Monad.{fact}
use contract.Running.{tables}
use prog.Wp.{WpFn}
use types.Logic.{sem}
use types.Kit.{Goal, ‵, raw, ◌⊛◌, some, later, prop, at_ret, ◌$◌, ◌∵◌, !, qed, done, move, drop, use1, use2, split}
use types.Kit.{join, fsplit, fjoin, feq_l, pick, await, rewrite, regoal, suffices, frame, group, show}
use types.Part.{agg}
use types.Run.{enter, init, assigns, of_opd, stop, no_more, and_then, returns, returns_within, bin, lit, first}
use types.Run.{branches, skips, exec}
use types.ByLocal.{alloc_all, pass_all, free_all, look_at, get, through, sets, lands_as, env}
use denote.Builtin.{usize}
use denote.Exit.{yes}
use denote.Laws.{Is, shows}
use denote.Lend.{lends_slice, Held}
use denote.Memory.{part_at, lone}
use denote.Plain.{uint_vals, uint_Tells}
use denote.RawPtr.{Ptr, RawPtr, block_ptr, block_of, count_of, rawptr_vals, rawptr_Tells, rawptr_Lawful, Testable}
use denote.RawPtr.{tests_null}
use borrow.Table.OneValue.{part_in_at}
use denote.Signature.{plain, static_lft}
use denote.Slice.{MutSlice, Room, slice_val}
use denote.Steps.{nothing, heard, peeks}
use denote.Triple.Call.{calls_at}
use denote.Triple.Clauses.{lasts}
use denote.Triple.Entry.{on_entry}
use denote.Triple.Spec.{triple_of}
use denote.Triple.Table.{framed}
use denote.Triple.Walked.{Stays, walk_of, says, stay_dropped, Goes-dropped, ends_at}
use Rattle.firmware.specs.declared.reply.Reply.{Reply}
use Rattle.firmware.specs.contracts.reply.Reply as reply
use Rattle.firmware.proofs.reply.Reply.TheLaws.{the_row_laws}
use Rattle.firmware_c.specs.Stores.{fresh_over}
use Rattle.firmware_c.specs.Lent.{RunAt, CellAt, run_row, cell_row, cells_row, vacant, made, comes_back, IsMade}
use Rattle.firmware_c.specs.Lent.{IsNotMade, slots, is_null, any_null, unless, done_reply, null_reply}
use Rattle.firmware_c.specs.contracts.starting.fun_run_new as f
use Rattle.firmware_c.specs.contracts.lent.refused_null as n
use Rattle.firmware_c.specs.contracts.lent.done as d
use Rattle.firmware_c.proofs.lent.done.Met as done_met
use Rattle.firmware_c.specs.contracts.starting.over as g
use Rattle.firmware_c.proofs.starting.fun_run_new.Statement.{statement}
use Rattle.firmware_c.proofs.starting.fun_run_new.Code as code
use Rattle.firmware_c.proofs.lent.refused_null.Met as null_met
use Rattle.firmware_c.proofs.starting.over.Met.{met}
use Rattle.values.specs.contracts.Value as value
use Rattle.values.specs.contracts.ValueBlank.TheImpl as blank
use Rattle.firmware_c.specs.Lent.{run_ghosts}
use Rattle.firmware.proofs.run_place.RunPlace.TheLaws as run-laws
use Rattle.linked.proofs.linked.LinkedStore.TheLaws as linked-laws
use Rattle.values.proofs.Value.TheLaws as value-laws
use Rattle.firmware_c.proofs.Steps.{by_test, both_ways, first_false, second_false, in_block_where}

-- the value's type as the code spells it, with its lifetimes erased
abbrev type_of : Local → Ty
type_of (local t k) = t

abbrev τ : Ty
τ = get_or (map type_of code.Mir.locals) 8 ty_unit

abbrev stayed : Stays f.ended.signature.params f.ended.kept
stayed = (stay_dropped _ yes, (stay_dropped _ yes, (stay_dropped _ yes, tt)))

pub fun_run_new_spec : {M : Type 1} → statement M
fun_run_new_spec 𝓤 𝓛 𝓜 𝓡 wired =
    let c = f.clauses 𝓛 𝓜.mem 𝓡.returns in let W = walk_of 𝓛 f.ended stayed c in let 𝓣 = tables 𝓤 𝓛.H 𝓜 𝓡 𝓡.env in
    let fm = framed 𝓤 𝓛.H 𝓜 (tables 𝓤 𝓛.H 𝓜 𝓡 𝓡.env) in
    let of_ptr = Goes-dropped 𝓛 0 (plain (λ _. RawPtr)) yes (λ κs x w. refl) in
    let of_usize = Goes-dropped 𝓛 0 (plain (λ _. usize)) yes (λ κs x w. refl) in
    proved 𝓛 f.ended stayed c 𝓜 𝓡 (of_ptr, (of_ptr, (of_usize, tt)))
    f.Key.name code.function (code.unfolded 𝓤 𝓛.H 𝓜 𝓡 wired)
    (λ κs. (rawptr_vals, (rawptr_vals, (uint_vals w64, tt)))) (λ κs. (
      rawptr_Tells,
      (
        rawptr_Tells,
        (
          uint_Tells w64,
          tt,
        ),
      ),
    )) (λ κs qs bounds a lent are.
    let y : Ptr → Ptr → ℕ → W.Ghost = λ run cells count. (
      (
        κs,
        qs,
        bounds,
        (run, (cells, (count, tt))),
        (
          rawptr_vals
              run,
          (rawptr_vals cells, (uint_vals w64 count, tt)),
        ),
      ),
      lent,
    ) in
    let at : Ptr → Ptr → ℕ → Goal 𝓤 𝓛.H = λ run cells count. prop (WpFn 𝓤 𝓛.H 𝓣.C 𝓣.Λ code.function (rawptr_vals run
    ++ (rawptr_vals cells ++ (uint_vals w64 count ++ []))) (W.post (y run cells count))) in
    qed 𝓛 (raw (on_entry 𝓛 f.signature κs qs a (y a.0 a.1.0 a.1.1.0).0.4) ∷ (raw (fact 𝓤 (Testable a.0 × Testable
    a.1.0)) ⊛ (raw (fact 𝓤 (Room cell_row a.1.1.0)) ⊛ (‵ (vacant run_row a.0) ⊛ ‵ (slots cell_row a.1.1.0 lent
    a.1.0)))) ∷ []) ∵ drop ! $
    split ! $ heard ! (Testable a.0 × Testable a.1.0) (λ may. split ! $
    heard ! (Room cell_row a.1.1.0) (λ room. split ! $
    by_test ! (any_null (a.0 ∷ a.1.0 ∷ []))
    (λ null. enter ! 𝓣.C 𝓣.Λ code.function _ _ $ alloc_all ! (λ l. pass_all ! refl (
      ((rawptr_Lawful 𝓛).typed a.0 _ refl).0,
      (
        ((rawptr_Lawful 𝓛).typed a.1.0 _ refl).0,
        (
          (
            tt,
            record {
              fits =
                  are.1.1.0.1;
            },
          ),
          tt,
        ),
      ),
    ) $ sets ! (bin ! (get ! refl) (lit ! tt) (tests_null a.0 may.0)) refl (tt, tt) $
    sets ! (bin ! (get ! refl) (lit ! tt) (tests_null a.1.0 may.1)) refl (tt, tt) $
    sets ! (bin ! (get ! refl) (get ! refl) tt) refl (tt, tt) $ first ! $ branches ! (get ! refl) (λ t.
    let N = triple_of 𝓛 n.signature (n.spec 𝓛 𝓜.mem 𝓡.returns) in
    let zN : N.Ghost = ((tt, tt, tt, tt, tt), tt) in
    nothing ! $ nothing ! $ join ! $ nothing ! $ move ! (1 ∷ 0 ∷ []) $ join ! $ use1 𝓛 (raw (N.pre zN)) (id⊢ 𝓤 _) $
    calls_at ! fm N (null_met.met 𝓤 𝓛 𝓜 𝓡 (code.calls-firmware_c::lent::refused_null 𝓡.env wired)) zN (no_more !) (λ
    v.
    use1 𝓛 (later (some (λ (r : Reply). (‵ ftrue ⊛ ‵ (reply.the_row.own_val r (v ∷ []))) ⊛
    some (λ ws. ‵ (lasts n.ended zN.0.0 zN.0.3 ws) ⊛ raw (fact 𝓤 (r ≡ null_reply)))))) (id⊢ 𝓤 _) $
    await ! tt $ pick ! (λ r. split ! $ split ! $ drop ! $
    peeks ! reply.the_row (Is reply.the_row) (shows 𝓛 reply.the_row) r (v ∷ []) (λ is. lands_as ! refl refl
    ((the_row_laws.lawful 𝓛).typed r _ is).0 $
    move ! (1 ∷ []) $ pick ! (λ ws. split ! $ drop ! $ heard ! _ (λ replied_so.
    returns_within ! (W.post (y a.0 a.1.0 a.1.1.0)) refl (look_at ! 0 refl) $ free_all ! refl $
    suffices ! _ (ends_at 𝓛 f.ended stayed c (y a.0 a.1.0 a.1.1.0) v r (tt, (tt, (tt, tt))) (tt, (tt, (tt, tt)))) $
    nothing ! $ nothing ! $ join ! $ nothing ! $ join ! $ nothing ! $ join ! $ nothing ! $ group ! 3 $ frame ! $
    show ! (λ (left : Option RunAt). sep 𝓤 (sep 𝓤 (sem 𝓛 (made run_row left a.0)) (sem 𝓛 (comes_back left (slots
    cell_row a.1.1.0 lent a.1.0)))) (fact 𝓤 (unless (any_null (a.0 ∷ a.1.0 ∷ [])) (IsNotMade left × (r ≡
    null_reply)) (IsMade left (λ new. fresh_over a.1.1.0 new) × (r ≡ done_reply))))) None $
    says ! (λ _. (tt, replied_so), λ t. absurd (both_ways _ null t)) $ done !))))))
    (λ t. absurd (both_ways _ null t))))
    (λ leads.
    let is_run = in_block_where a.0 (first_false (is_null a.0) (is_null a.1.0) leads) in
    let is_cells = in_block_where a.1.0 (second_false (is_null a.0) (is_null a.1.0) leads) in
    rewrite ! 0 (λ (p : Ptr). ‵ (vacant run_row p)) is_run refl $
    regoal ! (λ (p : Ptr). at p a.1.0 a.1.1.0) is_run refl $
    rewrite ! 1 (λ (p : Ptr). ‵ (slots cell_row a.1.1.0 lent p)) is_cells refl $
    regoal ! (λ (p : Ptr). at (block_ptr (block_of a.0) (count_of a.0)) p a.1.1.0) is_cells refl $
    move ! (1 ∷ []) $ fsplit ! $ feq_l ! (λ long. regoal ! (λ (n : ℕ). at (block_ptr (block_of a.0) (count_of a.0))
    (block_ptr (block_of a.1.0) (count_of a.1.0)) n) (sym long) refl $
    let has_room : Room cell_row (length lent) = subst (Room cell_row) (sym long) room in
    enter ! 𝓣.C 𝓣.Λ code.function _ _ $ alloc_all ! (λ l. pass_all ! refl
    ((tt, tt), ((tt, tt), ((tt, record { fits = has_room.0 }), tt))) $
    sets ! (bin ! (get ! refl) (lit ! tt) (tests_null (block_ptr (block_of a.0) (count_of a.0)) (subst Testable
    is_run may.0))) refl (tt, tt) $
    sets ! (bin ! (get ! refl) (lit ! tt) (tests_null (block_ptr (block_of a.1.0) (count_of a.1.0)) (subst Testable
    is_cells may.1))) refl (tt, tt) $ sets ! (bin ! (get ! refl) (get ! refl) tt) refl (tt, tt) $
    first ! $ branches ! (get ! refl) (λ t. absurd t) (λ t. skips ! $
    exec ! 𝓣.C 𝓣.Λ (env code.Mir.locals l) code.Mir.t-5 (at_ret _ (W.post (y (block_ptr (block_of a.0) (count_of
    a.0)) (block_ptr (block_of a.1.0) (count_of a.1.0)) (length lent)))) $
    sets ! (of_opd ! (get ! refl)) refl (tt, tt) $
    sets ! (agg ! (and_then ! (get ! refl) (and_then ! (get ! refl) (no_more !)))) refl (
      tt,
      (
        tt,
        (
          record {
            fits =
                has_room.0;
          },
          tt,
        ),
      ),
    ) $
    let at_cells : ℕ → MutBor (List CellAt) = λ δ. record {
      ref_ptr = (block_of a.1.0, count_of a.1.0);
      ghost_name =
          δ;
      now = lent;
    } in
    -- [the cells; the room]
    use1 𝓛 (later (some (λ (δ : ℕ). ‵ ((MutSlice static [] cell_row).own_val (at_cells δ) (slice_val (
      block_of
          a.1.0,
      count_of a.1.0,
    ) (length lent) ∷ [])) ⊛ ‵ (flent [] (Held cell_row (length lent) (block_of a.1.0)
    (count_of a.1.0) δ)))))
    (lends_slice 𝓛 cell_row static [] lent (block_of a.1.0) (count_of a.1.0) has_room) $ await ! tt $
    pick ! (λ δ. split ! $ move ! (1 ∷ []) $ drop ! $
    let G = triple_of 𝓛 g.signature (g.spec 𝓛 𝓜.mem 𝓡.returns) in
    let z : G.Ghost = (
      (
        tt,
        tt,
        tt,
        (at_cells δ, tt),
        (
          slice_val (block_of a.1.0, count_of a.1.0) (length lent) ∷
              [],
          tt,
        ),
      ),
      tt,
    ) in
    nothing ! $ move ! (1 ∷ 0 ∷ []) $ fjoin ! $ nothing ! $ join ! $ nothing ! $ move ! (1 ∷ 0 ∷ []) $ join ! $
    use1 𝓛 (raw (G.pre z)) (id⊢ 𝓤 _) $
    calls_at ! fm G (met 𝓤 𝓛 𝓜 𝓡 (code.calls-firmware_c::starting::over 𝓡.env wired)) z (and_then ! (get ! refl)
    (no_more !)) (λ v.
    use1 𝓛 (later (some (λ (new : RunAt). (‵ ftrue ⊛ ‵ (run_row.own_val new (v ∷ []))) ⊛
    some (λ ws. ‵ (lasts g.ended z.0.0 z.0.3 ws) ⊛ raw (fact 𝓤 (fresh_over (length lent) new)))))) (id⊢ 𝓤 _) $
    await ! tt $ pick ! (λ new. split ! $ split ! $ drop ! $
    peeks ! run_row (Is run_row) (shows 𝓛 run_row) new (v ∷ []) (λ is. let good = (((run-laws.the_row_laws cells_row
    run_ghosts (linked-laws.the_row_laws static_lft value.the_row blank.ghosts value-laws.the_row_laws)).lawful
    𝓛).typed new _ is).0 in
    lands_as ! refl refl good $ move ! (1 ∷ []) $ pick ! (λ ws. split ! $ drop ! $
    heard ! _ (λ fresh. move ! (1 ∷ []) $
    -- [the room; the new value]
    use1 𝓛 (‵ (froom τ (block_of a.0) (count_of a.0))) (via 𝓤 _ (𝓛.laws.room-raw (lone run_row.mir) (block_of a.0)
    (count_of a.0)) (𝓛.laws.raw-room τ (block_of a.0) (count_of a.0))) $
    assigns ! (of_opd ! (get ! refl)) (through ! refl (stop !)) (init ! 0 refl good) $
    use2 𝓛 (‵ (part_at run_row full_share new (block_of a.0) (count_of a.0))) (part_in_at 𝓛 run_row refl full_share
    new (block_of a.0) (count_of a.0) τ refl v) $
    let D = triple_of 𝓛 d.signature (d.spec 𝓛 𝓜.mem 𝓡.returns) in
    let zD : D.Ghost = ((tt, tt, tt, tt, tt), tt) in
    nothing ! $ nothing ! $ join ! $ nothing ! $ move ! (1 ∷ 0 ∷ []) $ join ! $ use1 𝓛 (raw (D.pre zD)) (id⊢ 𝓤 _) $
    calls_at ! fm D (done_met.met 𝓤 𝓛 𝓜 𝓡 (code.calls-firmware_c::lent::done 𝓡.env wired)) zD (no_more !) (λ v.
    use1 𝓛 (later (some (λ (r : Reply). (‵ ftrue ⊛ ‵ (reply.the_row.own_val r (v ∷ []))) ⊛
    some (λ ws. ‵ (lasts d.ended zD.0.0 zD.0.3 ws) ⊛ raw (fact 𝓤 (r ≡ done_reply)))))) (id⊢ 𝓤 _) $
    await ! tt $ pick ! (λ r. split ! $ split ! $ drop ! $
    peeks ! reply.the_row (Is reply.the_row) (shows 𝓛 reply.the_row) r (v ∷ []) (λ is. lands_as ! refl refl
    ((the_row_laws.lawful 𝓛).typed r _ is).0 $
    move ! (1 ∷ []) $ pick ! (λ ws. split ! $ drop ! $ heard ! _ (λ replied_so.
    returns ! (look_at ! 0 refl) $ free_all ! refl $
    suffices ! _ (ends_at 𝓛 f.ended stayed c (y (block_ptr (block_of a.0) (count_of a.0)) (block_ptr (block_of
    a.1.0) (count_of a.1.0)) (length lent)) v r (tt, (tt, (tt, tt))) (tt, (tt, (tt, tt)))) $
    nothing ! $ nothing ! $ join ! $ nothing ! $ join ! $ nothing ! $ join ! $ nothing ! $ group ! 3 $ frame ! $
    show ! (λ (left : Option RunAt). sep 𝓤 (sep 𝓤 (sem 𝓛 (made run_row left (block_ptr (block_of a.0) (count_of
    a.0)))) (sem 𝓛 (comes_back left (slots cell_row (length lent) lent (block_ptr (block_of a.1.0) (count_of
    a.1.0)))))) (fact 𝓤 (unless (any_null (block_ptr (block_of a.0) (count_of a.0) ∷ block_ptr (block_of a.1.0)
    (count_of a.1.0) ∷ [])) (IsNotMade left × (r ≡ null_reply)) (IsMade left (λ new. fresh_over (length lent) new) ×
    (r ≡ done_reply))))) (Some new) $
    says ! (λ t. absurd t, λ _. (fresh, replied_so)) $ nothing ! $ move ! (1 ∷ 0 ∷ []) $ done !))))))))))))))))))
