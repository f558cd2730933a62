-- place, record and buffers are lent to the safe function, each for a lifetime that is made for the call, and come back
use Rattle.std.proofs.Common.{◌≡◌, ℕ, List, [], ◌∷◌, ◌++◌, length, refl, sym, subst, w8, w64, Bor, MutBor}
use Rattle.std.proofs.raw_atomic.Walks.{proved}
use base.Fraction.{full_share}
use base.Logic.{sep, id⊢}
use base.Fml.{ftrue, flft, flent, Incl-refl}
use mir.Syntax.{named}
use contract.Monad.{fact}
use contract.Running.{tables}
use prog.Wp.{WpFn}
use types.Logic.{sem}
use types.Kit.{Goal, ‵, raw, ◌⊛◌, some, later, prop, at_ret, ◌$◌, ◌∵◌, !, qed, done, move, keep, drop, use1, use2}
use types.Kit.{use3, split, join, fsplit, fjoin, feq_l, feq_i, pick, await, rewrite, regoal, suffices, frame, group}
use types.Kit.{show}
use types.Tokens.{lft_new, lft_end, lent_back}
use types.SemTy.{Arr, Body}
use types.Share.{arr_parts}
use types.Part.{agg}
use types.Run.{enter, addr, of_opd, stop, no_more, and_then, returns, returns_within, bin, lit, first, branches}
use types.Run.{skips, exec}
use types.ByLocal.{alloc_all, pass_all, free_all, look_at, get, through, sets, lands_as, env}
use denote.Builtin.{u8, u16, usize}
use denote.Copied.{uint_Copied}
use denote.Exit.{yes}
use denote.Laws.{Is, shows}
use denote.Lend.{lends_ref, ref_back, lends_slice, slice_back, lends_shr_slice, Held}
use denote.Memory.{mem, shares, part_at}
use denote.Plain.{uint_vals, uint_Tells}
use denote.RawPtr.{Ptr, RawPtr, block_ptr, block_of, count_of, rawptr_vals, rawptr_Tells, rawptr_Lawful, Testable}
use denote.RawPtr.{tests_null}
use denote.Ref.{MutRef, mut_vals}
use denote.Signature.{plain}
use denote.Slice.{MutSlice, ShrSlice, Room, slice_val}
use denote.Steps.{nothing, heard, peeks}
use denote.Triple.Call.{calls_at}
use denote.Triple.Clauses.{lasts}
use denote.Triple.Entry.{on_entry}
use denote.Triple.Spec.{triple_of}
use denote.Triple.Table.{framed}
use denote.Triple.Walked.{Stays, walk_of, says, stay_dropped, Goes-dropped, ends_at}
use Rattle.firmware.specs.declared.reply.Reply.{Reply}
use Rattle.firmware.specs.contracts.reply.Reply as reply
use Rattle.firmware.proofs.reply.Reply.TheLaws.{the_row_laws}
use Rattle.firmware_c.specs.Lent.{RuleAt, rule_row, place, shown, slots, is_null, any_null, unless, null_reply}
use Rattle.firmware.specs.Replies.{AcceptReplied}
use Rattle.firmware_c.specs.contracts.accepting.fun_accept as f
use Rattle.firmware_c.specs.contracts.lent.refused_null as n
use Rattle.firmware_c.specs.contracts.accepting.accept_in as g
use Rattle.firmware_c.proofs.accepting.fun_accept.Statement.{statement}
use Rattle.firmware_c.proofs.accepting.fun_accept.Code as code
use Rattle.firmware_c.proofs.lent.refused_null.Met as null_met
use Rattle.firmware_c.proofs.accepting.accept_in.Met.{met}
use Rattle.firmware_c.proofs.Steps.{by_test, both_ways, first_false, second_false, in_block_where}

abbrev stayed : Stays f.ended.signature.params f.ended.kept
stayed = (stay_dropped _ yes, (stay_dropped _ yes, (stay_dropped _ yes, (stay_dropped _ yes, (stay_dropped _ yes, (stay_dropped _ yes, (stay_dropped _ yes, (stay_dropped _ yes, (stay_dropped _ yes, tt)))))))))

pub fun_accept_spec : {M : Type 1} → statement M
fun_accept_spec 𝓤 𝓛 𝓜 𝓡 wired =
    let c = f.clauses 𝓛 𝓜.mem 𝓡.returns in let W = walk_of 𝓛 f.ended stayed c in let 𝓣 = tables 𝓤 𝓛.H 𝓜 𝓡 𝓡.env in
    let fm = framed 𝓤 𝓛.H 𝓜 (tables 𝓤 𝓛.H 𝓜 𝓡 𝓡.env) in
    let of_ptr = Goes-dropped 𝓛 0 (plain (λ _. RawPtr)) yes (λ κs x w. refl) in
    let of_usize = Goes-dropped 𝓛 0 (plain (λ _. usize)) yes (λ κs x w. refl) in
    proved 𝓛 f.ended stayed c 𝓜 𝓡 (
      of_ptr,
      (
        of_ptr,
        (
          of_usize,
          (
            of_ptr,
            (
              of_usize,
              (
                of_ptr,
                (
                  of_usize,
                  (
                    of_ptr,
                    (of_usize, tt),
                  ),
                ),
              ),
            ),
          ),
        ),
      ),
    )
    f.Key.name code.function (code.unfolded 𝓤 𝓛.H 𝓜 𝓡 wired)
    (λ κs. (
      rawptr_vals,
      (
        rawptr_vals,
        (
          uint_vals w64,
          (
            rawptr_vals,
            (
              uint_vals w64,
              (
                rawptr_vals,
                (
                  uint_vals w64,
                  (rawptr_vals, (uint_vals w64, tt)),
                ),
              ),
            ),
          ),
        ),
      ),
    )) (λ κs. (
      rawptr_Tells,
      (
        rawptr_Tells,
        (
          uint_Tells w64,
          (
            rawptr_Tells,
            (uint_Tells w64, (rawptr_Tells, (uint_Tells w64, (rawptr_Tells, (uint_Tells w64, tt))))),
          ),
        ),
      ),
    )) (λ κs qs bounds a
    lent are.
    let y : Ptr → Ptr → ℕ → Ptr → ℕ → Ptr → ℕ → Ptr → ℕ → W.Ghost = λ rule bytes count first first_count second
    second_count types types_count. (
      (
        κs,
        qs,
        bounds,
        (
          rule,
          (
            bytes,
            (
              count,
              (
                first,
                (
                  first_count,
                  (
                    second,
                    (second_count, (types, (types_count, tt))),
                  ),
                ),
              ),
            ),
          ),
        ),
        (
          rawptr_vals rule,
          (
            rawptr_vals bytes,
            (
              uint_vals w64 count,
              (
                rawptr_vals first,
                (
                  uint_vals w64 first_count,
                  (
                    rawptr_vals second,
                    (
                      uint_vals w64 second_count,
                      (
                        rawptr_vals
                            types,
                        (uint_vals w64 types_count, tt),
                      ),
                    ),
                  ),
                ),
              ),
            ),
          ),
        ),
      ),
      lent,
    ) in
    let at : Ptr → Ptr → ℕ → Ptr → ℕ → Ptr → ℕ → Ptr → ℕ → Goal 𝓤 𝓛.H = λ rule bytes count first first_count second
    second_count types types_count. prop (WpFn 𝓤 𝓛.H 𝓣.C 𝓣.Λ code.function (rawptr_vals rule ++ (rawptr_vals bytes
    ++ (uint_vals w64 count ++ (rawptr_vals first ++ (uint_vals w64 first_count ++ (rawptr_vals second ++ (uint_vals
    w64 second_count ++ (rawptr_vals types ++ (uint_vals w64 types_count ++ []))))))))) (W.post (y rule bytes count
    first first_count second second_count types types_count))) in
    qed 𝓛 (raw (on_entry 𝓛 f.signature κs qs a (y a.0 a.1.0 a.1.1.0 a.1.1.1.0 a.1.1.1.1.0 a.1.1.1.1.1.0
    a.1.1.1.1.1.1.0 a.1.1.1.1.1.1.1.0 a.1.1.1.1.1.1.1.1.0).0.4) ∷ (raw (fact 𝓤 (Testable a.0 × Testable a.1.0 ×
    Testable a.1.1.1.0 × Testable a.1.1.1.1.1.0 × Testable a.1.1.1.1.1.1.1.0)) ⊛ (raw (fact 𝓤 (Room u8 a.1.1.0 ×
    Room u16 a.1.1.1.1.0 × Room u16 a.1.1.1.1.1.1.0 × Room u16 a.1.1.1.1.1.1.1.1.0)) ⊛ (‵ (place rule_row lent.0
    a.0) ⊛ (‵ (shown u8 lent.1.0 a.1.1.0 lent.1.1 a.1.0) ⊛ (‵ (slots u16 a.1.1.1.1.0 lent.2 a.1.1.1.0) ⊛ (‵ (slots
    u16 a.1.1.1.1.1.1.0 lent.3 a.1.1.1.1.1.0) ⊛ ‵ (slots u16 a.1.1.1.1.1.1.1.1.0 lent.4 a.1.1.1.1.1.1.1.0))))))) ∷
    []) ∵ drop ! $
    split ! $ heard ! (Testable a.0 × Testable a.1.0 × Testable a.1.1.1.0 × Testable a.1.1.1.1.1.0 × Testable
    a.1.1.1.1.1.1.1.0) (λ may.
    split ! $ heard ! (Room u8 a.1.1.0 × Room u16 a.1.1.1.1.0 × Room u16 a.1.1.1.1.1.1.0 × Room u16
    a.1.1.1.1.1.1.1.1.0) (λ room.
    split ! $ move ! (1 ∷ []) $ split ! $ move ! (1 ∷ []) $ split ! $ move ! (1 ∷ []) $ split ! $
    by_test ! (any_null (a.0 ∷ a.1.0 ∷ a.1.1.1.0 ∷ a.1.1.1.1.1.0 ∷ a.1.1.1.1.1.1.1.0 ∷ []))
    (λ null. enter ! 𝓣.C 𝓣.Λ code.function _ _ $ alloc_all ! (λ l. pass_all ! refl (
      ((rawptr_Lawful 𝓛).typed a.0 _ refl).0,
      (
        ((rawptr_Lawful 𝓛).typed a.1.0 _ refl).0,
        (
          (
            tt,
            record {
              fits =
                  are.1.1.0.1;
            },
          ),
          (
            ((rawptr_Lawful 𝓛).typed a.1.1.1.0 _ refl).0,
            (
              (tt, record { fits = are.1.1.1.1.0.1 }),
              (
                ((rawptr_Lawful 𝓛).typed a.1.1.1.1.1.0 _ refl).0,
                (
                  (tt, record { fits = are.1.1.1.1.1.1.0.1 }),
                  (
                    ((rawptr_Lawful 𝓛).typed a.1.1.1.1.1.1.1.0 _ refl).0,
                    (
                      (tt, record { fits = are.1.1.1.1.1.1.1.1.0.1 }),
                      tt,
                    ),
                  ),
                ),
              ),
            ),
          ),
        ),
      ),
    ) $ sets ! (bin ! (get ! refl) (lit ! tt) (tests_null a.0 may.0)) refl (tt, tt) $
    sets ! (bin ! (get ! refl) (lit ! tt) (tests_null a.1.0 may.1)) refl (tt, tt) $
    sets ! (bin ! (get ! refl) (get ! refl) tt) refl (tt, tt) $
    sets ! (bin ! (get ! refl) (lit ! tt) (tests_null a.1.1.1.0 may.2)) refl (tt, tt) $
    sets ! (bin ! (get ! refl) (get ! refl) tt) refl (tt, tt) $
    sets ! (bin ! (get ! refl) (lit ! tt) (tests_null a.1.1.1.1.1.0 may.3)) refl (tt, tt) $
    sets ! (bin ! (get ! refl) (get ! refl) tt) refl (tt, tt) $
    sets ! (bin ! (get ! refl) (lit ! tt) (tests_null a.1.1.1.1.1.1.1.0 may.4)) refl (tt, tt) $
    sets ! (bin ! (get ! refl) (get ! refl) tt) refl (tt, tt) $ first ! $ branches ! (get ! refl) (λ t.
    let N = triple_of 𝓛 n.signature (n.spec 𝓛 𝓜.mem 𝓡.returns) in
    let z : N.Ghost = ((tt, tt, tt, tt, tt), tt) in
    nothing ! $ nothing ! $ join ! $ nothing ! $ move ! (1 ∷ 0 ∷ []) $ join ! $ use1 𝓛 (raw (N.pre z)) (id⊢ 𝓤 _) $
    calls_at ! fm N (null_met.met 𝓤 𝓛 𝓜 𝓡 (code.calls-firmware_c::lent::refused_null 𝓡.env wired)) z (no_more !) (λ
    v.
    use1 𝓛 (later (some (λ (r : Reply). (‵ ftrue ⊛ ‵ (reply.the_row.own_val r (v ∷ []))) ⊛
    some (λ ws. ‵ (lasts n.ended z.0.0 z.0.3 ws) ⊛ raw (fact 𝓤 (r ≡ null_reply)))))) (id⊢ 𝓤 _) $
    await ! tt $ pick ! (λ r. split ! $ split ! $ drop ! $
    peeks ! reply.the_row (Is reply.the_row) (shows 𝓛 reply.the_row) r (v ∷ []) (λ is. lands_as ! refl refl
    ((the_row_laws.lawful 𝓛).typed r _ is).0 $
    move ! (1 ∷ []) $ pick ! (λ ws. split ! $ drop ! $ heard ! _ (λ replied_so.
    returns_within ! (W.post (y a.0 a.1.0 a.1.1.0 a.1.1.1.0 a.1.1.1.1.0 a.1.1.1.1.1.0 a.1.1.1.1.1.1.0
    a.1.1.1.1.1.1.1.0 a.1.1.1.1.1.1.1.1.0)) refl (look_at ! 0 refl) $ free_all ! refl $
    move ! (0 ∷ 5 ∷ 4 ∷ 3 ∷ 1 ∷ 2 ∷ []) $
    suffices ! _ (ends_at 𝓛 f.ended stayed c (y a.0 a.1.0 a.1.1.0 a.1.1.1.0 a.1.1.1.1.0 a.1.1.1.1.1.0
    a.1.1.1.1.1.1.0 a.1.1.1.1.1.1.1.0 a.1.1.1.1.1.1.1.1.0) v r (
      tt,
      (
        tt,
        (
          tt,
          (
            tt,
            (
              tt,
              (
                tt,
                (
                  tt,
                  (
                    tt,
                    (
                      tt,
                      tt,
                    ),
                  ),
                ),
              ),
            ),
          ),
        ),
      ),
    ) (tt, (tt, (tt, (tt, (tt, (tt, (tt, (tt, (tt, tt)))))))))) $
    nothing ! $ nothing ! $ join ! $ nothing ! $ join ! $ nothing ! $ join ! $ nothing ! $ join ! $ nothing ! $
    join ! $ nothing ! $ join ! $ nothing ! $ join ! $ nothing ! $ join ! $ nothing ! $ join ! $ nothing ! $
    group ! 3 $ frame ! $
    show ! (λ (left : RuleAt × List ℕ × List ℕ × List ℕ). sep 𝓤 (sep 𝓤 (sem 𝓛 (place rule_row left.0 a.0)) (sep 𝓤
    (sem 𝓛 (shown u8 lent.1.0 a.1.1.0 lent.1.1 a.1.0)) (sep 𝓤 (sem 𝓛 (slots u16 a.1.1.1.1.0 left.1 a.1.1.1.0)) (sep
    𝓤 (sem 𝓛 (slots u16 a.1.1.1.1.1.1.0 left.2 a.1.1.1.1.1.0)) (sem 𝓛 (slots u16 a.1.1.1.1.1.1.1.1.0 left.3
    a.1.1.1.1.1.1.1.0)))))) (fact 𝓤 (unless (any_null (a.0 ∷ a.1.0 ∷ a.1.1.1.0 ∷ a.1.1.1.1.1.0 ∷ a.1.1.1.1.1.1.1.0 ∷
    [])) ((left ≡ (lent.0, lent.2, lent.3, lent.4)) × (r ≡ null_reply)) (AcceptReplied lent.1.1 lent.2 lent.3 lent.4
    lent.0 left.1 left.2 left.3 left.0 r)))) (lent.0, lent.2, lent.3, lent.4) $
    says ! (λ _. (refl, replied_so), λ t. absurd (both_ways _ null t)) $ done !))))))
    (λ t. absurd (both_ways _ null t))))
    (λ leads.
    let is_rule = in_block_where a.0 (first_false (any_null (a.0 ∷ [])) (is_null a.1.0) (first_false (any_null (a.0
    ∷ a.1.0 ∷ [])) (is_null a.1.1.1.0) (first_false (any_null (a.0 ∷ a.1.0 ∷ a.1.1.1.0 ∷ [])) (is_null
    a.1.1.1.1.1.0) (first_false (any_null (a.0 ∷ a.1.0 ∷ a.1.1.1.0 ∷ a.1.1.1.1.1.0 ∷ [])) (is_null
    a.1.1.1.1.1.1.1.0) leads)))) in
    let is_bytes = in_block_where a.1.0 (second_false (any_null (a.0 ∷ [])) (is_null a.1.0) (first_false (any_null
    (a.0 ∷ a.1.0 ∷ [])) (is_null a.1.1.1.0) (first_false (any_null (a.0 ∷ a.1.0 ∷ a.1.1.1.0 ∷ [])) (is_null
    a.1.1.1.1.1.0) (first_false (any_null (a.0 ∷ a.1.0 ∷ a.1.1.1.0 ∷ a.1.1.1.1.1.0 ∷ [])) (is_null
    a.1.1.1.1.1.1.1.0) leads)))) in
    let is_first = in_block_where a.1.1.1.0 (second_false (any_null (a.0 ∷ a.1.0 ∷ [])) (is_null a.1.1.1.0)
    (first_false (any_null (a.0 ∷ a.1.0 ∷ a.1.1.1.0 ∷ [])) (is_null a.1.1.1.1.1.0) (first_false (any_null (a.0 ∷
    a.1.0 ∷ a.1.1.1.0 ∷ a.1.1.1.1.1.0 ∷ [])) (is_null a.1.1.1.1.1.1.1.0) leads))) in
    let is_second = in_block_where a.1.1.1.1.1.0 (second_false (any_null (a.0 ∷ a.1.0 ∷ a.1.1.1.0 ∷ [])) (is_null
    a.1.1.1.1.1.0) (first_false (any_null (a.0 ∷ a.1.0 ∷ a.1.1.1.0 ∷ a.1.1.1.1.1.0 ∷ [])) (is_null
    a.1.1.1.1.1.1.1.0) leads)) in
    let is_types = in_block_where a.1.1.1.1.1.1.1.0 (second_false (any_null (a.0 ∷ a.1.0 ∷ a.1.1.1.0 ∷ a.1.1.1.1.1.0
    ∷ [])) (is_null a.1.1.1.1.1.1.1.0) leads) in
    rewrite ! 4 (λ (p : Ptr). ‵ (place rule_row lent.0 p)) is_rule refl $
    regoal ! (λ (p : Ptr). at p a.1.0 a.1.1.0 a.1.1.1.0 a.1.1.1.1.0 a.1.1.1.1.1.0 a.1.1.1.1.1.1.0 a.1.1.1.1.1.1.1.0
    a.1.1.1.1.1.1.1.1.0) is_rule refl $
    rewrite ! 3 (λ (p : Ptr). ‵ (shown u8 lent.1.0 a.1.1.0 lent.1.1 p)) is_bytes refl $
    regoal ! (λ (p : Ptr). at (block_ptr (block_of a.0) (count_of a.0)) p a.1.1.0 a.1.1.1.0 a.1.1.1.1.0
    a.1.1.1.1.1.0 a.1.1.1.1.1.1.0 a.1.1.1.1.1.1.1.0 a.1.1.1.1.1.1.1.1.0) is_bytes refl $
    rewrite ! 2 (λ (p : Ptr). ‵ (slots u16 a.1.1.1.1.0 lent.2 p)) is_first refl $
    regoal ! (λ (p : Ptr). at (block_ptr (block_of a.0) (count_of a.0)) (block_ptr (block_of a.1.0) (count_of
    a.1.0)) a.1.1.0 p a.1.1.1.1.0 a.1.1.1.1.1.0 a.1.1.1.1.1.1.0 a.1.1.1.1.1.1.1.0 a.1.1.1.1.1.1.1.1.0) is_first refl
    $ rewrite ! 0 (λ (p : Ptr). ‵ (slots u16 a.1.1.1.1.1.1.0 lent.3 p)) is_second refl $
    regoal ! (λ (p : Ptr). at (block_ptr (block_of a.0) (count_of a.0)) (block_ptr (block_of a.1.0) (count_of
    a.1.0)) a.1.1.0 (block_ptr (block_of a.1.1.1.0) (count_of a.1.1.1.0)) a.1.1.1.1.0 p a.1.1.1.1.1.1.0
    a.1.1.1.1.1.1.1.0 a.1.1.1.1.1.1.1.1.0) is_second refl $
    rewrite ! 1 (λ (p : Ptr). ‵ (slots u16 a.1.1.1.1.1.1.1.1.0 lent.4 p)) is_types refl $
    regoal ! (λ (p : Ptr). at (block_ptr (block_of a.0) (count_of a.0)) (block_ptr (block_of a.1.0) (count_of
    a.1.0)) a.1.1.0 (block_ptr (block_of a.1.1.1.0) (count_of a.1.1.1.0)) a.1.1.1.1.0 (block_ptr (block_of
    a.1.1.1.1.1.0) (count_of a.1.1.1.1.1.0)) a.1.1.1.1.1.1.0 p a.1.1.1.1.1.1.1.1.0) is_types refl $ move ! (3 ∷ []) $
    fsplit ! $ feq_l ! (λ long_bytes.
    feq_i ! ℕ (length lent.1.1) (length lent.1.1) refl $ fjoin ! $
    regoal ! (λ (n : ℕ). at (block_ptr (block_of a.0) (count_of a.0)) (block_ptr (block_of a.1.0) (count_of a.1.0))
    n (block_ptr (block_of a.1.1.1.0) (count_of a.1.1.1.0)) a.1.1.1.1.0 (block_ptr (block_of a.1.1.1.1.1.0)
    (count_of a.1.1.1.1.1.0)) a.1.1.1.1.1.1.0 (block_ptr (block_of a.1.1.1.1.1.1.1.0) (count_of a.1.1.1.1.1.1.1.0))
    a.1.1.1.1.1.1.1.1.0) (sym long_bytes) refl $
    let room_bytes : Room u8 (length lent.1.1) = subst (Room u8) (sym long_bytes) room.0 in
    move ! (3 ∷ []) $ fsplit ! $ feq_l ! (λ long_first.
    regoal ! (λ (n : ℕ). at (block_ptr (block_of a.0) (count_of a.0)) (block_ptr (block_of a.1.0) (count_of a.1.0))
    ((length lent.1.1)) (block_ptr (block_of a.1.1.1.0) (count_of a.1.1.1.0)) n (block_ptr (block_of a.1.1.1.1.1.0)
    (count_of a.1.1.1.1.1.0)) a.1.1.1.1.1.1.0 (block_ptr (block_of a.1.1.1.1.1.1.1.0) (count_of a.1.1.1.1.1.1.1.0))
    a.1.1.1.1.1.1.1.1.0) (sym long_first) refl $
    let room_first : Room u16 (length lent.2) = subst (Room u16) (sym long_first) room.1 in
    move ! (2 ∷ []) $ fsplit ! $ feq_l ! (λ long_second.
    regoal ! (λ (n : ℕ). at (block_ptr (block_of a.0) (count_of a.0)) (block_ptr (block_of a.1.0) (count_of a.1.0))
    ((length lent.1.1)) (block_ptr (block_of a.1.1.1.0) (count_of a.1.1.1.0)) ((length lent.2)) (block_ptr (block_of
    a.1.1.1.1.1.0) (count_of a.1.1.1.1.1.0)) n (block_ptr (block_of a.1.1.1.1.1.1.1.0) (count_of a.1.1.1.1.1.1.1.0))
    a.1.1.1.1.1.1.1.1.0) (sym long_second) refl $
    let room_second : Room u16 (length lent.3) = subst (Room u16) (sym long_second) room.2 in
    move ! (3 ∷ []) $ fsplit ! $ feq_l ! (λ long_types.
    regoal ! (λ (n : ℕ). at (block_ptr (block_of a.0) (count_of a.0)) (block_ptr (block_of a.1.0) (count_of a.1.0))
    ((length lent.1.1)) (block_ptr (block_of a.1.1.1.0) (count_of a.1.1.1.0)) ((length lent.2)) (block_ptr (block_of
    a.1.1.1.1.1.0) (count_of a.1.1.1.1.1.0)) ((length lent.3)) (block_ptr (block_of a.1.1.1.1.1.1.1.0) (count_of
    a.1.1.1.1.1.1.1.0)) n) (sym long_types) refl $
    let room_types : Room u16 (length lent.4) = subst (Room u16) (sym long_types) room.3 in
    enter ! 𝓣.C 𝓣.Λ code.function _ _ $ alloc_all ! (λ l. pass_all ! refl (
      (tt, tt),
      (
        (tt, tt),
        (
          (tt, record { fits = room_bytes.0 }),
          (
            (tt, tt),
            (
              (tt, record { fits = room_first.0 }),
              ((tt, tt), ((tt, record { fits = room_second.0 }), ((tt, tt), ((tt, record { fits = room_types.0 }), tt)))),
            ),
          ),
        ),
      ),
    )
    $
    sets ! (bin ! (get ! refl) (lit ! tt) (tests_null (block_ptr (block_of a.0) (count_of a.0)) (subst Testable
    is_rule may.0))) refl (tt, tt) $
    sets ! (bin ! (get ! refl) (lit ! tt) (tests_null (block_ptr (block_of a.1.0) (count_of a.1.0)) (subst Testable
    is_bytes may.1))) refl (tt, tt) $ sets ! (bin ! (get ! refl) (get ! refl) tt) refl (tt, tt) $
    sets ! (bin ! (get ! refl) (lit ! tt) (tests_null (block_ptr (block_of a.1.1.1.0) (count_of a.1.1.1.0)) (subst
    Testable is_first may.2))) refl (tt, tt) $ sets ! (bin ! (get ! refl) (get ! refl) tt) refl (tt, tt) $
    sets ! (bin ! (get ! refl) (lit ! tt) (tests_null (block_ptr (block_of a.1.1.1.1.1.0) (count_of a.1.1.1.1.1.0))
    (subst Testable is_second may.3))) refl (tt, tt) $ sets ! (bin ! (get ! refl) (get ! refl) tt) refl (tt, tt) $
    sets ! (bin ! (get ! refl) (lit ! tt) (tests_null (block_ptr (block_of a.1.1.1.1.1.1.1.0) (count_of
    a.1.1.1.1.1.1.1.0)) (subst Testable is_types may.4))) refl (tt, tt) $
    sets ! (bin ! (get ! refl) (get ! refl) tt) refl (tt, tt) $
    first ! $ branches ! (get ! refl) (λ t. absurd t) (λ t. skips ! $
    exec ! 𝓣.C 𝓣.Λ (env code.Mir.locals l) code.Mir.t-11 (at_ret _ (W.post (y (block_ptr (block_of a.0) (count_of
    a.0)) (block_ptr (block_of a.1.0) (count_of a.1.0)) (length lent.1.1) (block_ptr (block_of a.1.1.1.0) (count_of
    a.1.1.1.0)) (length lent.2) (block_ptr (block_of a.1.1.1.1.1.0) (count_of a.1.1.1.1.1.0)) (length lent.3)
    (block_ptr (block_of a.1.1.1.1.1.1.1.0) (count_of a.1.1.1.1.1.1.1.0)) (length lent.4)))) $
    sets ! (of_opd ! (get ! refl)) refl (tt, tt) $ sets ! (addr ! (through ! refl (stop !))) refl (tt, tt) $
    sets ! (agg ! (and_then ! (get ! refl) (and_then ! (get ! refl) (no_more !)))) refl (
      tt,
      (
        tt,
        (
          record {
            fits =
                room_bytes.0;
          },
          tt,
        ),
      ),
    ) $
    sets ! (agg ! (and_then ! (get ! refl) (and_then ! (get ! refl) (no_more !)))) refl (
      tt,
      (
        tt,
        (
          record {
            fits =
                room_first.0;
          },
          tt,
        ),
      ),
    ) $
    sets ! (agg ! (and_then ! (get ! refl) (and_then ! (get ! refl) (no_more !)))) refl (
      tt,
      (
        tt,
        (
          record {
            fits =
                room_second.0;
          },
          tt,
        ),
      ),
    ) $
    sets ! (agg ! (and_then ! (get ! refl) (and_then ! (get ! refl) (no_more !)))) refl (
      tt,
      (
        tt,
        (
          record {
            fits =
                room_types.0;
          },
          tt,
        ),
      ),
    ) $
    let at_rule : ℕ → MutBor rule_row.Denot = λ δ. record {
      ref_ptr = (block_of a.0, count_of a.0);
      ghost_name = δ;
      now = lent.0;
    } in
    let at_bytes : Bor (List ℕ) = record { ref_ptr = (block_of a.1.0, count_of a.1.0); now = lent.1.1 } in
    let at_first : ℕ → MutBor (List ℕ) = λ δ. record {
      ref_ptr = (block_of a.1.1.1.0, count_of a.1.1.1.0);
      ghost_name = δ;
      now = lent.2;
    } in
    let at_second : ℕ → MutBor (List ℕ) = λ δ. record {
      ref_ptr = (block_of a.1.1.1.1.1.0, count_of a.1.1.1.1.1.0);
      ghost_name = δ;
      now = lent.3;
    } in
    let at_types : ℕ → MutBor (List ℕ) = λ δ. record {
      ref_ptr = (
        block_of a.1.1.1.1.1.1.1.0,
        count_of
            a.1.1.1.1.1.1.1.0,
      );
      ghost_name = δ;
      now = lent.4;
    } in
    lft_new ! tt (λ α0.
    move ! (5 ∷ []) $
    use1 𝓛 (later (some (λ (δ : ℕ). ‵ ((MutRef (named 0) (α0 ∷ []) rule_row).own_val (at_rule δ) (mut_vals (at_rule
    δ))) ⊛ ‵ (flent (α0 ∷ []) (Body (mem rule_row) (block_of a.0) (count_of a.0) δ)))))
    (lends_ref 𝓛 rule_row (named 0) (α0 ∷ []) lent.0 (block_of a.0) (count_of a.0)) $ await ! tt $
    pick ! (λ δ0. split ! $ lft_new ! tt (λ α1.
    move ! (7 ∷ 0 ∷ []) $
    use2 𝓛 (later ((‵ ((ShrSlice (named 1) (α1 ∷ []) u8).own_val at_bytes (slice_val (
      block_of a.1.0,
      count_of
          a.1.0,
    ) (length lent.1.1) ∷ [])) ⊛
    ‵ (flent (α1 ∷ []) ((arr_parts (shares u8) (length lent.1.1)).part lent.1.0 lent.1.1 (block_of a.1.0) (count_of
    a.1.0)))) ⊛ ‵ (flft (α1 ∷ []) full_share)))
    (lends_shr_slice 𝓛 u8 (named 1) (α1 ∷ []) lent.1.0 lent.1.1 (block_of a.1.0) (count_of a.1.0) room_bytes (α1 ∷
    []) ((uint_Copied 𝓛 w8).shares lent.1.0 (α1 ∷ [])) (((α1 ∷ []), full_share) ∷ []) (Incl-refl (α1 ∷ []))
    (Incl-refl (α1 ∷ []))) $ await ! tt $ split ! $ split ! $ lft_new ! tt (λ α2.
    move ! (9 ∷ []) $
    use1 𝓛 (later (some (λ (δ : ℕ). ‵ ((MutSlice (named 2) (α2 ∷ []) u16).own_val (at_first δ) (slice_val (
      block_of
          a.1.1.1.0,
      count_of a.1.1.1.0,
    ) (length lent.2) ∷ [])) ⊛ ‵ (flent (α2 ∷ []) (Held u16 (length lent.2) (block_of
    a.1.1.1.0) (count_of a.1.1.1.0) δ)))))
    (lends_slice 𝓛 u16 (named 2) (α2 ∷ []) lent.2 (block_of a.1.1.1.0) (count_of a.1.1.1.0) room_first) $
    await ! tt $ pick ! (λ δ2. split ! $ lft_new ! tt (λ α3.
    move ! (11 ∷ []) $
    use1 𝓛 (later (some (λ (δ : ℕ). ‵ ((MutSlice (named 3) (α3 ∷ []) u16).own_val (at_second δ) (slice_val (
      block_of
          a.1.1.1.1.1.0,
      count_of a.1.1.1.1.1.0,
    ) (length lent.3) ∷ [])) ⊛ ‵ (flent (α3 ∷ []) (Held u16 (length lent.3)
    (block_of a.1.1.1.1.1.0) (count_of a.1.1.1.1.1.0) δ)))))
    (lends_slice 𝓛 u16 (named 3) (α3 ∷ []) lent.3 (block_of a.1.1.1.1.1.0) (count_of a.1.1.1.1.1.0) room_second) $
    await ! tt $ pick ! (λ δ3. split ! $ lft_new ! tt (λ α4.
    move ! (13 ∷ []) $
    use1 𝓛 (later (some (λ (δ : ℕ). ‵ ((MutSlice (named 4) (α4 ∷ []) u16).own_val (at_types δ) (slice_val (
      block_of
          a.1.1.1.1.1.1.1.0,
      count_of a.1.1.1.1.1.1.1.0,
    ) (length lent.4) ∷ [])) ⊛ ‵ (flent (α4 ∷ []) (Held u16 (length
    lent.4) (block_of a.1.1.1.1.1.1.1.0) (count_of a.1.1.1.1.1.1.1.0) δ)))))
    (lends_slice 𝓛 u16 (named 4) (α4 ∷ []) lent.4 (block_of a.1.1.1.1.1.1.1.0) (count_of a.1.1.1.1.1.1.1.0)
    room_types) $ await ! tt $ pick ! (λ δ4. split ! $
    let G = triple_of 𝓛 g.signature (g.spec 𝓛 𝓜.mem 𝓡.returns) in
    let z : G.Ghost = (
      (
        (α0 ∷ [], (α1 ∷ [], (α2 ∷ [], (α3 ∷ [], (α4 ∷ [], tt))))),
        (
          full_share,
          (
            full_share,
            (full_share, (full_share, (full_share, tt))),
          ),
        ),
        tt,
        (
          at_rule δ0,
          (
            at_bytes,
            (
              at_first δ2,
              (
                at_second δ3,
                (at_types δ4, tt),
              ),
            ),
          ),
        ),
        (
          mut_vals (at_rule δ0),
          (
            slice_val (block_of a.1.0, count_of a.1.0) (length lent.1.1) ∷
                [],
            (
              slice_val (block_of a.1.1.1.0, count_of a.1.1.1.0) (length lent.2) ∷ [],
              (
                slice_val (
                  block_of
                      a.1.1.1.1.1.0,
                  count_of a.1.1.1.1.1.0,
                ) (length lent.3) ∷ [],
                (
                  slice_val (
                    block_of a.1.1.1.1.1.1.1.0,
                    count_of
                        a.1.1.1.1.1.1.1.0,
                  ) (length lent.4) ∷ [],
                  tt,
                ),
              ),
            ),
          ),
        ),
      ),
      tt,
    ) in
    nothing ! $ move ! (1 ∷ 0 ∷ []) $ fjoin ! $ move ! (3 ∷ 0 ∷ []) $ fjoin ! $ move ! (5 ∷ 0 ∷ []) $ fjoin ! $
    move ! (7 ∷ 0 ∷ []) $ fjoin ! $ move ! (9 ∷ 0 ∷ []) $ fjoin ! $ nothing ! $ move ! (3 ∷ 0 ∷ []) $ join ! $
    move ! (4 ∷ 0 ∷ []) $ join ! $ move ! (5 ∷ 0 ∷ []) $ join ! $ move ! (6 ∷ 0 ∷ []) $ join ! $
    move ! (7 ∷ 0 ∷ []) $ join ! $ join ! $
    nothing ! $ move ! (1 ∷ 0 ∷ []) $ join ! $ use1 𝓛 (raw (G.pre z)) (id⊢ 𝓤 _) $
    calls_at ! fm G (met 𝓤 𝓛 𝓜 𝓡 (code.calls-firmware_c::accepting::accept_in 𝓡.env wired)) z
    (and_then ! (get ! refl) (and_then ! (get ! refl) (and_then ! (get ! refl) (and_then ! (get ! refl) (and_then !
    (get ! refl) (no_more !)))))) (λ v.
    use1 𝓛 (later (some (λ (r : Reply). ((‵ (flft (α0 ∷ []) full_share) ⊛ (‵ (flft (α1 ∷ []) full_share) ⊛ (‵ (flft
    (α2 ∷ []) full_share) ⊛ (‵ (flft (α3 ∷ []) full_share) ⊛ (‵ (flft (α4 ∷ []) full_share) ⊛ ‵ ftrue))))) ⊛ ‵
    (reply.the_row.own_val r (v ∷ []))) ⊛
    some (λ (ws : (rule_row.Denot × (Unit {0} × (List ℕ × (List ℕ × (List ℕ × Unit {0})))))). ‵ (lasts g.ended z.0.0
    z.0.3 ws) ⊛ raw (fact 𝓤 (AcceptReplied lent.1.1 lent.2 lent.3 lent.4 lent.0 ws.1.1.0 ws.1.1.1.0 ws.1.1.1.1.0
    ws.0 r)))))) (id⊢ 𝓤 _) $ await ! tt $ pick ! (λ r. split ! $ split ! $ split ! $ lft_end ! tt $ move ! (1 ∷ []) $
    split ! $ lft_end ! tt $ move ! (1 ∷ []) $ split ! $ lft_end ! tt $ move ! (1 ∷ []) $ split ! $ lft_end ! tt $
    move ! (1 ∷ []) $ split ! $ lft_end ! tt $ move ! (6 ∷ []) $
    peeks ! reply.the_row (Is reply.the_row) (shows 𝓛 reply.the_row) r (v ∷ []) (λ is. lands_as ! refl refl
    ((the_row_laws.lawful 𝓛).typed r _ is).0 $ move ! (7 ∷ []) $
    pick ! (λ ws. split ! $ move ! (1 ∷ []) $ heard ! _ (λ done_so.
    fsplit ! $ fsplit ! $ move ! (2 ∷ []) $ fsplit ! $ move ! (1 ∷ []) $ fsplit ! $ fsplit ! $ fsplit ! $
    move ! (3 ∷ []) $ fsplit ! $ fsplit ! $ fsplit ! $ move ! (3 ∷ []) $ fsplit ! $ fsplit ! $ fsplit ! $
    move ! (19 ∷ 24 ∷ 11 ∷ []) $
    use3 𝓛 (later (‵ (part_at rule_row full_share ws.0 (block_of a.0) (count_of a.0)))) (ref_back 𝓛 rule_row (α0 ∷
    []) δ0 ws.0 (block_of a.0) (count_of a.0)) $ await ! tt $ move ! (18 ∷ 22 ∷ []) $ lent_back ! tt $
    move ! (18 ∷ 21 ∷ 9 ∷ []) $
    use3 𝓛 (later (‵ ((Arr (mem u16) (length lent.2)).own_at ws.1.1.0 (block_of a.1.1.1.0) (count_of a.1.1.1.0))))
    (slice_back 𝓛 u16 (α2 ∷ []) δ2 ws.1.1.0 (length lent.2) (block_of a.1.1.1.0) (count_of a.1.1.1.0)) $ await ! tt $
    move ! (17 ∷ 19 ∷ 7 ∷ []) $
    use3 𝓛 (later (‵ ((Arr (mem u16) (length lent.3)).own_at ws.1.1.1.0 (block_of a.1.1.1.1.1.0) (count_of
    a.1.1.1.1.1.0)))) (slice_back 𝓛 u16 (α3 ∷ []) δ3 ws.1.1.1.0 (length lent.3) (block_of a.1.1.1.1.1.0) (count_of
    a.1.1.1.1.1.0)) $ await ! tt $ move ! (15 ∷ 17 ∷ 4 ∷ []) $
    use3 𝓛 (later (‵ ((Arr (mem u16) (length lent.4)).own_at ws.1.1.1.1.0 (block_of a.1.1.1.1.1.1.1.0) (count_of
    a.1.1.1.1.1.1.1.0)))) (slice_back 𝓛 u16 (α4 ∷ []) δ4 ws.1.1.1.1.0 (length lent.4) (block_of a.1.1.1.1.1.1.1.0)
    (count_of a.1.1.1.1.1.1.1.0)) $ await ! tt $ returns ! (look_at ! 0 refl) $ free_all ! refl $
    keep ! (14 ∷ 4 ∷ 3 ∷ 2 ∷ 1 ∷ 0 ∷ []) $
    suffices ! _ (ends_at 𝓛 f.ended stayed c (y (block_ptr (block_of a.0) (count_of a.0)) (block_ptr (block_of
    a.1.0) (count_of a.1.0)) (length lent.1.1) (block_ptr (block_of a.1.1.1.0) (count_of a.1.1.1.0)) (length lent.2)
    (block_ptr (block_of a.1.1.1.1.1.0) (count_of a.1.1.1.1.1.0)) (length lent.3) (block_ptr (block_of
    a.1.1.1.1.1.1.1.0) (count_of a.1.1.1.1.1.1.1.0)) (length lent.4)) v r (
      tt,
      (
        tt,
        (
          tt,
          (
            tt,
            (
              tt,
              (
                tt,
                (
                  tt,
                  (
                    tt,
                    (tt, tt),
                  ),
                ),
              ),
            ),
          ),
        ),
      ),
    ) (tt, (tt, (tt, (tt, (tt, (tt, (tt, (tt, (tt, tt)))))))))) $
    nothing ! $ nothing ! $ join ! $ nothing ! $ join ! $ nothing ! $ join ! $ nothing ! $ join ! $ nothing ! $
    join ! $ nothing ! $ join ! $ nothing ! $ join ! $ nothing ! $ join ! $ nothing ! $ join ! $ nothing ! $
    group ! 3 $ frame ! $
    show ! (λ (left : RuleAt × List ℕ × List ℕ × List ℕ). sep 𝓤 (sep 𝓤 (sem 𝓛 (place rule_row left.0 (block_ptr
    (block_of a.0) (count_of a.0)))) (sep 𝓤 (sem 𝓛 (shown u8 lent.1.0 (length lent.1.1) lent.1.1 (block_ptr
    (block_of a.1.0) (count_of a.1.0)))) (sep 𝓤 (sem 𝓛 (slots u16 (length lent.2) left.1 (block_ptr (block_of
    a.1.1.1.0) (count_of a.1.1.1.0)))) (sep 𝓤 (sem 𝓛 (slots u16 (length lent.3) left.2 (block_ptr (block_of
    a.1.1.1.1.1.0) (count_of a.1.1.1.1.1.0)))) (sem 𝓛 (slots u16 (length lent.4) left.3 (block_ptr (block_of
    a.1.1.1.1.1.1.1.0) (count_of a.1.1.1.1.1.1.1.0)))))))) (fact 𝓤 (unless (any_null ((block_ptr (block_of a.0)
    (count_of a.0)) ∷ (block_ptr (block_of a.1.0) (count_of a.1.0)) ∷ (block_ptr (block_of a.1.1.1.0) (count_of
    a.1.1.1.0)) ∷ (block_ptr (block_of a.1.1.1.1.1.0) (count_of a.1.1.1.1.1.0)) ∷ (block_ptr (block_of
    a.1.1.1.1.1.1.1.0) (count_of a.1.1.1.1.1.1.1.0)) ∷ [])) ((left ≡ (lent.0, lent.2, lent.3, lent.4)) × (r ≡
    null_reply)) (AcceptReplied lent.1.1 lent.2 lent.3 lent.4 lent.0 left.1 left.2 left.3 left.0 r))))
    (ws.0, ws.1.1.0, ws.1.1.1.0, ws.1.1.1.1.0) $ says ! (λ t. absurd t, λ _. done_so) $
    done !))))))))))))))))))))))))
