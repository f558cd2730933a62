-- the buffer is lent to the safe function for a lifetime that is made for the call, and comes back
use Rattle.std.proofs.Common.{◌≡◌, ℕ, List, [], ◌∷◌, ◌++◌, length, refl, sym, subst, w32, w64, MutBor}
use Rattle.std.proofs.raw_atomic.Walks.{proved}
use base.Fraction.{full_share}
use base.Logic.{sep, id⊢}
use base.Fml.{ftrue, flft, flent}
use mir.Syntax.{named}
use contract.Monad.{fact}
use contract.Running.{tables}
use prog.Wp.{WpFn}
use types.Logic.{sem}
use types.Kit.{Goal, ‵, raw, ◌⊛◌, some, later, prop, at_ret, ◌$◌, ◌∵◌, !, qed, done, move, keep, drop, use1, use3}
use types.Kit.{split, join, fsplit, fjoin, feq_l, pick, await, rewrite, regoal, suffices, frame, group, show}
use types.Tokens.{lft_new, lft_end}
use types.SemTy.{Arr}
use types.Part.{agg}
use types.Run.{enter, no_more, and_then, returns, returns_within, bin, lit, first, branches, skips, exec}
use types.ByLocal.{alloc_all, pass_all, free_all, look_at, get, sets, lands_as, env}
use denote.Builtin.{u8, u32, usize}
use denote.Exit.{yes}
use denote.Laws.{Is, shows}
use denote.Lend.{lends_slice, slice_back, Held}
use denote.Memory.{mem}
use denote.Plain.{uint_Makes, uint_Lawful, uint_vals, uint_Tells}
use denote.RawPtr.{Ptr, RawPtr, block_ptr, block_of, count_of, rawptr_vals, rawptr_Tells, rawptr_Lawful, Testable}
use denote.RawPtr.{tests_null}
use denote.Signature.{plain}
use denote.Slice.{MutSlice, Room, slice_val}
use denote.Steps.{nothing, owned, heard, peeks}
use denote.Triple.Call.{calls_at}
use denote.Triple.Clauses.{lasts}
use denote.Triple.Entry.{on_entry}
use denote.Triple.Spec.{triple_of}
use denote.Triple.Table.{framed}
use denote.Triple.Walked.{Stays, walk_of, says, stay_dropped, Goes-dropped, ends_at}
use Rattle.firmware_c.specs.Lent.{slots, any_null, unless}
use Rattle.firmware.specs.Replies.{Copied}
use Rattle.firmware_c.specs.contracts.explaining.fun_explain as f
use Rattle.firmware_c.specs.contracts.explaining.nothing_told as n
use Rattle.firmware_c.specs.contracts.explaining.explain_in as g
use Rattle.firmware_c.proofs.explaining.fun_explain.Statement.{statement}
use Rattle.firmware_c.proofs.explaining.fun_explain.Code as code
use Rattle.firmware_c.proofs.explaining.nothing_told.Met as null_met
use Rattle.firmware_c.proofs.explaining.explain_in.Met.{met}
use Rattle.firmware_c.proofs.Steps.{by_test, both_ways, in_block_where}

abbrev stayed : Stays f.ended.signature.params f.ended.kept
stayed = (stay_dropped _ yes, (stay_dropped _ yes, (stay_dropped _ yes, tt)))

pub fun_explain_spec : {M : Type 1} → statement M
fun_explain_spec 𝓤 𝓛 𝓜 𝓡 wired =
    let c = f.clauses 𝓛 𝓜.mem 𝓡.returns in let W = walk_of 𝓛 f.ended stayed c in let 𝓣 = tables 𝓤 𝓛.H 𝓜 𝓡 𝓡.env in
    let fm = framed 𝓤 𝓛.H 𝓜 (tables 𝓤 𝓛.H 𝓜 𝓡 𝓡.env) in
    let of_ptr = Goes-dropped 𝓛 0 (plain (λ _. RawPtr)) yes (λ κs x w. refl) in
    let of_u32 = Goes-dropped 𝓛 0 (plain (λ _. u32)) yes (λ κs x w. refl) in
    let of_usize = Goes-dropped 𝓛 0 (plain (λ _. usize)) yes (λ κs x w. refl) in
    proved 𝓛 f.ended stayed c 𝓜 𝓡 (of_u32, (of_ptr, (of_usize, tt)))
    f.Key.name code.function (code.unfolded 𝓤 𝓛.H 𝓜 𝓡 wired)
    (λ κs. (uint_vals w32, (rawptr_vals, (uint_vals w64, tt)))) (λ κs. (
      uint_Tells w32,
      (
        rawptr_Tells,
        (
          uint_Tells
              w64,
          tt,
        ),
      ),
    )) (λ κs qs bounds a lent are.
    let refusal = a.0 in
    let y : Ptr → ℕ → W.Ghost = λ out count. (
      (
        κs,
        qs,
        bounds,
        (refusal, (out, (count, tt))),
        (
          uint_vals w32
              refusal,
          (rawptr_vals out, (uint_vals w64 count, tt)),
        ),
      ),
      lent,
    ) in
    let at : Ptr → ℕ → Goal 𝓤 𝓛.H = λ out count. prop (WpFn 𝓤 𝓛.H 𝓣.C 𝓣.Λ code.function (uint_vals w32 refusal ++
    (rawptr_vals out ++ (uint_vals w64 count ++ []))) (W.post (y out count))) in
    qed 𝓛 (raw (on_entry 𝓛 f.signature κs qs a (y a.1.0 a.1.1.0).0.4) ∷ (raw (fact 𝓤 (Testable a.1.0)) ⊛ (raw (fact
    𝓤 (Room u8 a.1.1.0)) ⊛ ‵ (slots u8 a.1.1.0 lent a.1.0))) ∷ []) ∵ drop ! $
    split ! $ heard ! (Testable a.1.0) (λ may.
    split ! $ heard ! (Room u8 a.1.1.0) (λ room.
    by_test ! (any_null (a.1.0 ∷ []))
    (λ null. enter ! 𝓣.C 𝓣.Λ code.function _ _ $ alloc_all ! (λ l. pass_all ! refl (
      (tt, record { fits = are.0.1 }),
      (
        ((rawptr_Lawful 𝓛).typed a.1.0 _ refl).0,
        (
          (
            tt,
            record {
              fits = are.1.1.0.1;
            },
          ),
          tt,
        ),
      ),
    ) $ sets ! (bin ! (get ! refl) (lit ! tt) (tests_null a.1.0 may)) refl (tt, tt) $
    first ! $ branches ! (get ! refl) (λ t.
    let N = triple_of 𝓛 n.signature (n.spec 𝓛 𝓜.mem 𝓡.returns) in
    let z : N.Ghost = ((tt, tt, tt, tt, tt), tt) in
    nothing ! $ nothing ! $ join ! $ nothing ! $ move ! (1 ∷ 0 ∷ []) $ join ! $ use1 𝓛 (raw (N.pre z)) (id⊢ 𝓤 _) $
    calls_at ! fm N (null_met.met 𝓤 𝓛 𝓜 𝓡 (code.calls-firmware_c::explaining::nothing_told 𝓡.env wired)) z (no_more
    !) (λ v.
    use1 𝓛 (later (some (λ (r : ℕ). (‵ ftrue ⊛ ‵ (usize.own_val r (v ∷ []))) ⊛
    some (λ ws. ‵ (lasts n.ended z.0.0 z.0.3 ws) ⊛ raw (fact 𝓤 (r ≡ 0)))))) (id⊢ 𝓤 _) $
    await ! tt $ pick ! (λ r. split ! $ split ! $ drop ! $
    peeks ! usize (Is usize) (shows 𝓛 usize) r (v ∷ []) (λ is. lands_as ! refl refl ((uint_Lawful 𝓛 w64).typed r _
    is).0 $ move ! (1 ∷ []) $ pick ! (λ ws. split ! $ drop ! $ heard ! _ (λ replied_so.
    returns_within ! (W.post (y a.1.0 a.1.1.0)) refl (look_at ! 0 refl) $ free_all ! refl $
    suffices ! _ (ends_at 𝓛 f.ended stayed c (y a.1.0 a.1.1.0) v r (tt, (tt, (tt, tt))) (tt, (tt, (tt, tt)))) $
    nothing ! $ nothing ! $ join ! $ nothing ! $ join ! $ nothing ! $ join ! $ nothing ! $ group ! 3 $ frame ! $
    show ! (λ (left : List ℕ). sep 𝓤 (sem 𝓛 (slots u8 a.1.1.0 left a.1.0)) (fact 𝓤 (unless (any_null (a.1.0 ∷ []))
    ((left ≡ lent) × (r ≡ 0)) (Copied lent left r)))) lent $
    says ! (λ _. (refl, replied_so), λ t. absurd (both_ways _ null t)) $ done !))))))
    (λ t. absurd (both_ways _ null t))))
    (λ leads.
    let is_out = in_block_where a.1.0 leads in
    rewrite ! 0 (λ (p : Ptr). ‵ (slots u8 a.1.1.0 lent p)) is_out refl $
    regoal ! (λ (p : Ptr). at p a.1.1.0) is_out refl $ fsplit ! $ feq_l ! (λ long_out.
    regoal ! (λ (n : ℕ). at (block_ptr (block_of a.1.0) (count_of a.1.0)) n) (sym long_out) refl $
    let room_out : Room u8 (length lent) = subst (Room u8) (sym long_out) room in
    enter ! 𝓣.C 𝓣.Λ code.function _ _ $ alloc_all ! (λ l. pass_all ! refl
    ((tt, record { fits = are.0.1 }), ((tt, tt), ((tt, record { fits = room_out.0 }), tt))) $
    sets ! (bin ! (get ! refl) (lit ! tt) (tests_null (block_ptr (block_of a.1.0) (count_of a.1.0)) (subst Testable
    is_out may))) refl (tt, tt) $ first ! $ branches ! (get ! refl) (λ t. absurd t) (λ t. skips ! $
    exec ! 𝓣.C 𝓣.Λ (env code.Mir.locals l) code.Mir.t-3 (at_ret _ (W.post (y (block_ptr (block_of a.1.0) (count_of
    a.1.0)) (length lent)))) $
    sets ! (agg ! (and_then ! (get ! refl) (and_then ! (get ! refl) (no_more !)))) refl (
      tt,
      (
        tt,
        (
          record {
            fits =
                room_out.0;
          },
          tt,
        ),
      ),
    ) $
    let at_out : ℕ → MutBor (List ℕ) = λ δ. record {
      ref_ptr = (block_of a.1.0, count_of a.1.0);
      ghost_name = δ;
      now
          = lent;
    } in
    lft_new ! tt (λ α0.
    move ! (1 ∷ []) $
    use1 𝓛 (later (some (λ (δ : ℕ). ‵ ((MutSlice (named 0) (α0 ∷ []) u8).own_val (at_out δ) (slice_val (
      block_of
          a.1.0,
      count_of a.1.0,
    ) (length lent) ∷ [])) ⊛ ‵ (flent (α0 ∷ []) (Held u8 (length lent) (block_of a.1.0)
    (count_of a.1.0) δ)))))
    (lends_slice 𝓛 u8 (named 0) (α0 ∷ []) lent (block_of a.1.0) (count_of a.1.0) room_out) $ await ! tt $
    pick ! (λ δ0. split ! $
    let G = triple_of 𝓛 g.signature (g.spec 𝓛 𝓜.mem 𝓡.returns) in
    let z : G.Ghost = (
      (
        (α0 ∷ [], tt),
        (full_share, tt),
        tt,
        (refusal, (at_out δ0, tt)),
        (
          uint_vals w32 refusal,
          (slice_val (block_of a.1.0, count_of a.1.0) (length lent) ∷ [], tt),
        ),
      ),
      tt,
    ) in
    nothing ! $ move ! (1 ∷ 0 ∷ []) $ fjoin ! $
    owned ! u32 _ (uint_Makes 𝓛 w32) refusal _ (refl, are.0.1) $ fjoin ! $ nothing ! $ move ! (3 ∷ 0 ∷ []) $ join ! $
    join ! $ nothing ! $ move ! (1 ∷ 0 ∷ []) $ join ! $ use1 𝓛 (raw (G.pre z)) (id⊢ 𝓤 _) $
    calls_at ! fm G (met 𝓤 𝓛 𝓜 𝓡 (code.calls-firmware_c::explaining::explain_in 𝓡.env wired)) z
    (and_then ! (get ! refl) (and_then ! (get ! refl) (no_more !))) (λ v.
    use1 𝓛 (later (some (λ (r : ℕ). ((‵ (flft (α0 ∷ []) full_share) ⊛ ‵ ftrue) ⊛ ‵ (usize.own_val r (v ∷ []))) ⊛
    some (λ (ws : (Unit {0} × (List ℕ × Unit {0}))). ‵ (lasts g.ended z.0.0 z.0.3 ws) ⊛ raw (fact 𝓤 (Copied lent
    ws.1.0 r)))))) (id⊢ 𝓤 _) $ await ! tt $ pick ! (λ r. split ! $ split ! $ split ! $ lft_end ! tt $
    move ! (2 ∷ []) $
    peeks ! usize (Is usize) (shows 𝓛 usize) r (v ∷ []) (λ is. lands_as ! refl refl ((uint_Lawful 𝓛 w64).typed r _
    is).0 $ move ! (3 ∷ []) $ pick ! (λ ws. split ! $ move ! (1 ∷ []) $ heard ! _ (λ done_so.
    fsplit ! $ move ! (1 ∷ []) $ fsplit ! $ fsplit ! $ fsplit ! $ move ! (6 ∷ 8 ∷ 0 ∷ []) $
    use3 𝓛 (later (‵ ((Arr (mem u8) (length lent)).own_at ws.1.0 (block_of a.1.0) (count_of a.1.0)))) (slice_back 𝓛
    u8 (α0 ∷ []) δ0 ws.1.0 (length lent) (block_of a.1.0) (count_of a.1.0)) $ await ! tt $
    returns ! (look_at ! 0 refl) $ free_all ! refl $ keep ! (5 ∷ 0 ∷ []) $
    suffices ! _ (ends_at 𝓛 f.ended stayed c (y (block_ptr (block_of a.1.0) (count_of a.1.0)) (length lent)) v r
    (tt, (tt, (tt, tt))) (tt, (tt, (tt, tt)))) $
    nothing ! $ nothing ! $ join ! $ nothing ! $ join ! $ nothing ! $ join ! $ nothing ! $ group ! 3 $ frame ! $
    show ! (λ (left : List ℕ). sep 𝓤 (sem 𝓛 (slots u8 (length lent) left (block_ptr (block_of a.1.0) (count_of
    a.1.0)))) (fact 𝓤 (unless (any_null ((block_ptr (block_of a.1.0) (count_of a.1.0)) ∷ [])) ((left ≡ lent) × (r ≡
    0)) (Copied lent left r))))
    ws.1.0 $ says ! (λ t. absurd t, λ _. done_so) $ done !))))))))))))))
