-- the run place is lent to the safe function for a lifetime that is made for the call, and comes back
use Rattle.std.proofs.Common.{◌≡◌, ℕ, [], ◌∷◌, ◌++◌, refl, subst, w32, MutBor}
use Rattle.std.proofs.raw_atomic.Walks.{proved}
use base.Fraction.{full_share}
use base.Logic.{sep, id⊢}
use base.Fml.{ftrue, flft, flent}
use mir.Syntax.{named}
use contract.Monad.{fact}
use contract.Running.{tables}
use prog.Wp.{WpFn}
use types.Logic.{sem}
use types.Kit.{Goal, ‵, raw, ◌⊛◌, some, later, prop, at_ret, ◌$◌, ◌∵◌, !, qed, done, move, keep, drop, use1, use3}
use types.Kit.{split, join, fsplit, fjoin, pick, await, rewrite, regoal, suffices, frame, group, show}
use types.Tokens.{lft_new, lft_end}
use types.SemTy.{Body}
use types.Run.{enter, addr, of_opd, stop, no_more, and_then, returns, returns_within, bin, lit, first, branches}
use types.Run.{skips, exec}
use types.ByLocal.{alloc_all, pass_all, free_all, look_at, get, through, sets, lands_as, env}
use denote.Builtin.{u32}
use denote.Exit.{yes}
use denote.Laws.{Is, shows}
use denote.Lend.{lends_ref, ref_back}
use denote.Memory.{mem, part_at}
use denote.Plain.{uint_Makes, uint_vals, uint_Tells}
use denote.RawPtr.{Ptr, RawPtr, block_ptr, block_of, count_of, rawptr_vals, rawptr_Tells, rawptr_Lawful, Testable}
use denote.RawPtr.{tests_null}
use denote.Ref.{MutRef, mut_vals}
use denote.Signature.{plain}
use denote.Steps.{nothing, owned, heard, peeks}
use denote.Triple.Call.{calls_at}
use denote.Triple.Clauses.{lasts}
use denote.Triple.Entry.{on_entry}
use denote.Triple.Spec.{triple_of}
use denote.Triple.Table.{framed}
use denote.Triple.Walked.{Stays, walk_of, says, stay_dropped, Goes-dropped, ends_at}
use Rattle.firmware.specs.declared.reply.Reply.{Reply}
use Rattle.firmware.specs.contracts.reply.Reply as reply
use Rattle.firmware.proofs.reply.Reply.TheLaws.{the_row_laws}
use Rattle.firmware_c.specs.Lent.{RunAt, run_row, place, any_null, unless, null_reply}
use Rattle.firmware_c.specs.Stores.{granted}
use Rattle.firmware_c.specs.contracts.running.fun_grant as f
use Rattle.firmware_c.specs.contracts.lent.refused_null as n
use Rattle.firmware_c.specs.contracts.running.grant_in as g
use Rattle.firmware_c.proofs.running.fun_grant.Statement.{statement}
use Rattle.firmware_c.proofs.running.fun_grant.Code as code
use Rattle.firmware_c.proofs.lent.refused_null.Met as null_met
use Rattle.firmware_c.proofs.running.grant_in.Met.{met}
use Rattle.firmware_c.proofs.Steps.{by_test, both_ways, in_block_where}

abbrev stayed : Stays f.ended.signature.params f.ended.kept
stayed = (stay_dropped _ yes, (stay_dropped _ yes, tt))

pub fun_grant_spec : {M : Type 1} → statement M
fun_grant_spec 𝓤 𝓛 𝓜 𝓡 wired =
    let c = f.clauses 𝓛 𝓜.mem 𝓡.returns in let W = walk_of 𝓛 f.ended stayed c in let 𝓣 = tables 𝓤 𝓛.H 𝓜 𝓡 𝓡.env in
    let fm = framed 𝓤 𝓛.H 𝓜 (tables 𝓤 𝓛.H 𝓜 𝓡 𝓡.env) in
    let of_ptr = Goes-dropped 𝓛 0 (plain (λ _. RawPtr)) yes (λ κs x w. refl) in
    let of_u32 = Goes-dropped 𝓛 0 (plain (λ _. u32)) yes (λ κs x w. refl) in
    proved 𝓛 f.ended stayed c 𝓜 𝓡 (of_ptr, (of_u32, tt))
    f.Key.name code.function (code.unfolded 𝓤 𝓛.H 𝓜 𝓡 wired)
    (λ κs. (rawptr_vals, (uint_vals w32, tt))) (λ κs. (rawptr_Tells, (uint_Tells w32, tt))) (λ κs qs bounds a lent
    are.
    let steps = a.1.0 in
    let y : Ptr → W.Ghost = λ run. (
      (
        κs,
        qs,
        bounds,
        (run, (steps, tt)),
        (
          rawptr_vals run,
          (
            uint_vals w32 steps,
            tt,
          ),
        ),
      ),
      lent,
    ) in
    let at : Ptr → Goal 𝓤 𝓛.H = λ run. prop (WpFn 𝓤 𝓛.H 𝓣.C 𝓣.Λ code.function (rawptr_vals run ++ (uint_vals w32
    steps ++ [])) (W.post (y run))) in
    qed 𝓛 (raw (on_entry 𝓛 f.signature κs qs a (y a.0).0.4) ∷ (raw (fact 𝓤 (Testable a.0)) ⊛ ‵ (place run_row lent
    a.0)) ∷ []) ∵ drop ! $ split ! $ heard ! (Testable a.0) (λ may.
    by_test ! (any_null (a.0 ∷ []))
    (λ null. enter ! 𝓣.C 𝓣.Λ code.function _ _ $ alloc_all ! (λ l. pass_all ! refl
    (((rawptr_Lawful 𝓛).typed a.0 _ refl).0, ((tt, record { fits = are.1.0.1 }), tt)) $
    sets ! (bin ! (get ! refl) (lit ! tt) (tests_null a.0 may)) refl (tt, tt) $
    first ! $ branches ! (get ! refl) (λ t.
    let N = triple_of 𝓛 n.signature (n.spec 𝓛 𝓜.mem 𝓡.returns) in
    let z : N.Ghost = ((tt, tt, tt, tt, tt), tt) in
    nothing ! $ nothing ! $ join ! $ nothing ! $ move ! (1 ∷ 0 ∷ []) $ join ! $ use1 𝓛 (raw (N.pre z)) (id⊢ 𝓤 _) $
    calls_at ! fm N (null_met.met 𝓤 𝓛 𝓜 𝓡 (code.calls-firmware_c::lent::refused_null 𝓡.env wired)) z (no_more !) (λ
    v.
    use1 𝓛 (later (some (λ (r : Reply). (‵ ftrue ⊛ ‵ (reply.the_row.own_val r (v ∷ []))) ⊛
    some (λ ws. ‵ (lasts n.ended z.0.0 z.0.3 ws) ⊛ raw (fact 𝓤 (r ≡ null_reply)))))) (id⊢ 𝓤 _) $
    await ! tt $ pick ! (λ r. split ! $ split ! $ drop ! $
    peeks ! reply.the_row (Is reply.the_row) (shows 𝓛 reply.the_row) r (v ∷ []) (λ is. lands_as ! refl refl
    ((the_row_laws.lawful 𝓛).typed r _ is).0 $
    move ! (1 ∷ []) $ pick ! (λ ws. split ! $ drop ! $ heard ! _ (λ replied_so.
    returns_within ! (W.post (y a.0)) refl (look_at ! 0 refl) $ free_all ! refl $
    suffices ! _ (ends_at 𝓛 f.ended stayed c (y a.0) v r (tt, (tt, tt)) (tt, (tt, tt))) $
    nothing ! $ nothing ! $ join ! $ nothing ! $ join ! $ nothing ! $ group ! 3 $ frame ! $
    show ! (λ (left : RunAt). sep 𝓤 (sem 𝓛 (place run_row left a.0)) (fact 𝓤 (unless (any_null (a.0 ∷ [])) ((left ≡
    lent) × (r ≡ null_reply)) (granted lent steps left r)))) lent $
    says ! (λ _. (refl, replied_so), λ t. absurd (both_ways _ null t)) $ done !))))))
    (λ t. absurd (both_ways _ null t))))
    (λ leads.
    let is_run = in_block_where a.0 leads in
    rewrite ! 0 (λ (p : Ptr). ‵ (place run_row lent p)) is_run refl $ regoal ! (λ (p : Ptr). at p) is_run refl $
    enter ! 𝓣.C 𝓣.Λ code.function _ _ $ alloc_all ! (λ l. pass_all ! refl
    ((tt, tt), ((tt, record { fits = are.1.0.1 }), tt)) $
    sets ! (bin ! (get ! refl) (lit ! tt) (tests_null (block_ptr (block_of a.0) (count_of a.0)) (subst Testable
    is_run may))) refl (tt, tt) $ first ! $ branches ! (get ! refl) (λ t. absurd t) (λ t. skips ! $
    exec ! 𝓣.C 𝓣.Λ (env code.Mir.locals l) code.Mir.t-3 (at_ret _ (W.post (y (block_ptr (block_of a.0) (count_of
    a.0))))) $
    sets ! (of_opd ! (get ! refl)) refl (tt, tt) $ sets ! (addr ! (through ! refl (stop !))) refl (tt, tt) $
    let at_run : ℕ → MutBor run_row.Denot = λ δ. record {
      ref_ptr = (block_of a.0, count_of a.0);
      ghost_name = δ;
      now = lent;
    } in
    lft_new ! tt (λ α0.
    move ! (1 ∷ []) $
    use1 𝓛 (later (some (λ (δ : ℕ). ‵ ((MutRef (named 0) (α0 ∷ []) run_row).own_val (at_run δ) (mut_vals (at_run
    δ))) ⊛ ‵ (flent (α0 ∷ []) (Body (mem run_row) (block_of a.0) (count_of a.0) δ)))))
    (lends_ref 𝓛 run_row (named 0) (α0 ∷ []) lent (block_of a.0) (count_of a.0)) $ await ! tt $
    pick ! (λ δ0. split ! $
    let G = triple_of 𝓛 g.signature (g.spec 𝓛 𝓜.mem 𝓡.returns) in
    let z : G.Ghost = (
      (
        (α0 ∷ [], tt),
        (full_share, tt),
        tt,
        (at_run δ0, (steps, tt)),
        (
          mut_vals (at_run δ0),
          (uint_vals w32 steps, tt),
        ),
      ),
      tt,
    ) in
    nothing ! $ owned ! u32 _ (uint_Makes 𝓛 w32) steps _ (refl, are.1.0.1) $ fjoin ! $ move ! (1 ∷ 0 ∷ []) $
    fjoin ! $ nothing ! $ move ! (3 ∷ 0 ∷ []) $ join ! $ join ! $
    nothing ! $ move ! (1 ∷ 0 ∷ []) $ join ! $ use1 𝓛 (raw (G.pre z)) (id⊢ 𝓤 _) $
    calls_at ! fm G (met 𝓤 𝓛 𝓜 𝓡 (code.calls-firmware_c::running::grant_in 𝓡.env wired)) z
    (and_then ! (get ! refl) (and_then ! (get ! refl) (no_more !))) (λ v.
    use1 𝓛 (later (some (λ (r : Reply). ((‵ (flft (α0 ∷ []) full_share) ⊛ ‵ ftrue) ⊛ ‵ (reply.the_row.own_val r (v ∷
    []))) ⊛
    some (λ (ws : (run_row.Denot × (Unit {0} × Unit {0}))). ‵ (lasts g.ended z.0.0 z.0.3 ws) ⊛ raw (fact 𝓤 (granted
    lent steps ws.0 r)))))) (id⊢ 𝓤 _) $ await ! tt $ pick ! (λ r. split ! $ split ! $ split ! $ lft_end ! tt $
    move ! (2 ∷ []) $
    peeks ! reply.the_row (Is reply.the_row) (shows 𝓛 reply.the_row) r (v ∷ []) (λ is. lands_as ! refl refl
    ((the_row_laws.lawful 𝓛).typed r _ is).0 $ move ! (3 ∷ []) $
    pick ! (λ ws. split ! $ move ! (1 ∷ []) $ heard ! _ (λ done_so.
    fsplit ! $ fsplit ! $ move ! (2 ∷ []) $ fsplit ! $ move ! (5 ∷ 7 ∷ 2 ∷ []) $
    use3 𝓛 (later (‵ (part_at run_row full_share ws.0 (block_of a.0) (count_of a.0)))) (ref_back 𝓛 run_row (α0 ∷ [])
    δ0 ws.0 (block_of a.0) (count_of a.0)) $ await ! tt $ returns ! (look_at ! 0 refl) $ free_all ! refl $
    keep ! (4 ∷ 0 ∷ []) $
    suffices ! _ (ends_at 𝓛 f.ended stayed c (y (block_ptr (block_of a.0) (count_of a.0))) v r (tt, (tt, tt)) (
      tt,
      (tt, tt),
    )) $ nothing ! $ nothing ! $ join ! $ nothing ! $ join ! $ nothing ! $ group ! 3 $ frame ! $
    show ! (λ (left : RunAt). sep 𝓤 (sem 𝓛 (place run_row left (block_ptr (block_of a.0) (count_of a.0)))) (fact 𝓤
    (unless (any_null ((block_ptr (block_of a.0) (count_of a.0)) ∷ [])) ((left ≡ lent) × (r ≡ null_reply)) (granted
    lent steps left r))))
    ws.0 $ says ! (λ t. absurd t, λ _. done_so) $ done !))))))))))))
