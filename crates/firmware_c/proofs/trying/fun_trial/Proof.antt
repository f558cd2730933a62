-- places, text, buffers and readings are lent to the safe function, each for a lifetime that is made for the call, and come back
use Rattle.std.proofs.Common.{◌≡◌, ℕ, ℤ, List, [], ◌∷◌, ◌++◌, length, refl, sym, subst, w8, w32, w64, Bor, MutBor}
use Rattle.std.proofs.raw_atomic.Walks.{proved}
use base.Fraction.{full_share}
use base.Logic.{sep, id⊢}
use base.Fml.{ftrue, flft, flent, Incl-refl}
use mir.Syntax.{named}
use contract.Monad.{fact}
use contract.Running.{tables}
use prog.Wp.{WpFn}
use types.Logic.{sem}
use types.Kit.{Goal, ‵, raw, ◌⊛◌, some, later, prop, at_ret, ◌$◌, ◌∵◌, !, qed, done, move, keep, drop, use1, use2}
use types.Kit.{use3, split, join, fsplit, fjoin, feq_l, feq_i, pick, await, rewrite, regoal, suffices, frame, group}
use types.Kit.{show}
use types.Tokens.{lft_new, lft_end, lent_back}
use types.SemTy.{Arr, Body}
use types.Share.{arr_parts}
use types.Part.{agg}
use types.Run.{enter, addr, of_opd, stop, no_more, and_then, returns, returns_within, bin, lit, first, branches}
use types.Run.{skips, exec}
use types.ByLocal.{alloc_all, pass_all, free_all, look_at, get, through, sets, lands_as, env}
use denote.Builtin.{u8, u16, u32, i32, usize}
use denote.Copied.{uint_Copied, sint_Copied}
use denote.Exit.{yes}
use denote.Laws.{Is, shows}
use denote.Lend.{lends_ref, ref_back, lends_slice, slice_back, lends_shr_slice, Held}
use denote.Memory.{mem, shares, part_at}
use denote.Plain.{uint_Makes, uint_vals, uint_Tells}
use denote.RawPtr.{Ptr, RawPtr, block_ptr, block_of, count_of, rawptr_vals, rawptr_Tells, rawptr_Lawful, Testable}
use denote.RawPtr.{tests_null}
use denote.Ref.{MutRef, mut_vals}
use denote.Signature.{plain}
use denote.Slice.{MutSlice, ShrSlice, Room, slice_val}
use denote.Steps.{nothing, owned, heard, peeks}
use denote.Triple.Call.{calls_at}
use denote.Triple.Clauses.{lasts}
use denote.Triple.Entry.{on_entry}
use denote.Triple.Spec.{triple_of}
use denote.Triple.Table.{framed}
use denote.Triple.Walked.{Stays, walk_of, says, stay_dropped, Goes-dropped, ends_at}
use Rattle.firmware.specs.declared.trying.Trial.{Trial}
use Rattle.firmware.specs.contracts.trying.Trial as trial
use Rattle.firmware.proofs.trying.Trial.TheLaws.{the_row_laws}
use Rattle.firmware_c.specs.Lent.{RunAt, RuleAt, BookAt, run_row, rule_row, book_row, place, shown, slots, is_null}
use Rattle.firmware_c.specs.Lent.{any_null, unless, null_trial}
use Rattle.firmware_c.specs.Stores.{tries}
use Rattle.book.specs.Books.{names}
use Rattle.firmware.specs.Trials.{buffers}
use Rattle.firmware_c.specs.contracts.trying.fun_trial as f
use Rattle.firmware_c.specs.contracts.trying.no_trial as n
use Rattle.firmware_c.specs.contracts.trying.try_in as g
use Rattle.firmware_c.proofs.trying.fun_trial.Statement.{statement}
use Rattle.firmware_c.proofs.trying.fun_trial.Code as code
use Rattle.firmware_c.proofs.trying.no_trial.Met as null_met
use Rattle.firmware_c.proofs.trying.try_in.Met.{met}
use Rattle.firmware_c.proofs.Steps.{by_test, both_ways, first_false, second_false, in_block_where}

abbrev stayed : Stays f.ended.signature.params f.ended.kept
stayed = (stay_dropped _ yes, (stay_dropped _ yes, (stay_dropped _ yes, (stay_dropped _ yes, (stay_dropped _ yes, (stay_dropped _ yes, (stay_dropped _ yes, (stay_dropped _ yes, (stay_dropped _ yes, (stay_dropped _ yes, (stay_dropped _ yes, (stay_dropped _ yes, (stay_dropped _ yes, (stay_dropped _ yes, (stay_dropped _ yes, (stay_dropped _ yes, tt))))))))))))))))

pub fun_trial_spec : {M : Type 1} → statement M
fun_trial_spec 𝓤 𝓛 𝓜 𝓡 wired =
    let c = f.clauses 𝓛 𝓜.mem 𝓡.returns in let W = walk_of 𝓛 f.ended stayed c in let 𝓣 = tables 𝓤 𝓛.H 𝓜 𝓡 𝓡.env in
    let fm = framed 𝓤 𝓛.H 𝓜 (tables 𝓤 𝓛.H 𝓜 𝓡 𝓡.env) in
    let of_ptr = Goes-dropped 𝓛 0 (plain (λ _. RawPtr)) yes (λ κs x w. refl) in
    let of_usize = Goes-dropped 𝓛 0 (plain (λ _. usize)) yes (λ κs x w. refl) in
    let of_u32 = Goes-dropped 𝓛 0 (plain (λ _. u32)) yes (λ κs x w. refl) in
    proved 𝓛 f.ended stayed c 𝓜 𝓡 (
      of_ptr,
      (
        of_ptr,
        (
          of_ptr,
          (
            of_ptr,
            (
              of_usize,
              (
                of_ptr,
                (
                  of_usize,
                  (
                    of_ptr,
                    (of_usize, (of_ptr, (of_usize, (of_ptr, (of_usize, (of_ptr, (of_usize, (of_u32, tt)))))))),
                  ),
                ),
              ),
            ),
          ),
        ),
      ),
    )
    f.Key.name code.function (code.unfolded 𝓤 𝓛.H 𝓜 𝓡 wired)
    (λ κs. (
      rawptr_vals,
      (
        rawptr_vals,
        (
          rawptr_vals,
          (
            rawptr_vals,
            (
              uint_vals w64,
              (
                rawptr_vals,
                (
                  uint_vals w64,
                  (
                    rawptr_vals,
                    (
                      uint_vals w64,
                      (
                        rawptr_vals,
                        (
                          uint_vals w64,
                          (
                            rawptr_vals,
                            (
                              uint_vals w64,
                              (
                                rawptr_vals,
                                (uint_vals w64, (uint_vals w32, tt)),
                              ),
                            ),
                          ),
                        ),
                      ),
                    ),
                  ),
                ),
              ),
            ),
          ),
        ),
      ),
    )) (λ κs. (
      rawptr_Tells,
      (
        rawptr_Tells,
        (
          rawptr_Tells,
          (
            rawptr_Tells,
            (
              uint_Tells w64,
              (
                rawptr_Tells,
                (
                  uint_Tells w64,
                  (
                    rawptr_Tells,
                    (
                      uint_Tells w64,
                      (
                        rawptr_Tells,
                        (
                          uint_Tells w64,
                          (
                            rawptr_Tells,
                            (
                              uint_Tells w64,
                              (
                                rawptr_Tells,
                                (
                                  uint_Tells w64,
                                  (
                                    uint_Tells w32,
                                    tt,
                                  ),
                                ),
                              ),
                            ),
                          ),
                        ),
                      ),
                    ),
                  ),
                ),
              ),
            ),
          ),
        ),
      ),
    )) (λ κs qs bounds a lent are.
    let steps = a.1.1.1.1.1.1.1.1.1.1.1.1.1.1.1.0 in
    let y : Ptr → Ptr → Ptr → Ptr → ℕ → Ptr → ℕ → Ptr → ℕ → Ptr → ℕ → Ptr → ℕ → Ptr → ℕ → W.Ghost = λ run rule book
    text text_count out out_count first first_count second second_count types types_count readings count. (
      (
        κs,
        qs,
        bounds,
        (
          run,
          (
            rule,
            (
              book,
              (
                text,
                (
                  text_count,
                  (
                    out,
                    (
                      out_count,
                      (
                        first,
                        (
                          first_count,
                          (
                            second,
                            (
                              second_count,
                              (types, (types_count, (readings, (count, (steps, tt))))),
                            ),
                          ),
                        ),
                      ),
                    ),
                  ),
                ),
              ),
            ),
          ),
        ),
        (
          rawptr_vals run,
          (
            rawptr_vals rule,
            (
              rawptr_vals book,
              (
                rawptr_vals text,
                (
                  uint_vals w64 text_count,
                  (
                    rawptr_vals out,
                    (
                      uint_vals w64 out_count,
                      (
                        rawptr_vals first,
                        (
                          uint_vals w64 first_count,
                          (
                            rawptr_vals second,
                            (
                              uint_vals w64 second_count,
                              (
                                rawptr_vals
                                    types,
                                (
                                  uint_vals w64 types_count,
                                  (
                                    rawptr_vals readings,
                                    (
                                      uint_vals w64 count,
                                      (
                                        uint_vals w32 steps,
                                        tt,
                                      ),
                                    ),
                                  ),
                                ),
                              ),
                            ),
                          ),
                        ),
                      ),
                    ),
                  ),
                ),
              ),
            ),
          ),
        ),
      ),
      lent,
    ) in
    let at : Ptr → Ptr → Ptr → Ptr → ℕ → Ptr → ℕ → Ptr → ℕ → Ptr → ℕ → Ptr → ℕ → Ptr → ℕ → Goal 𝓤 𝓛.H = λ run rule
    book text text_count out out_count first first_count second second_count types types_count readings count. prop
    (WpFn 𝓤 𝓛.H 𝓣.C 𝓣.Λ code.function (rawptr_vals run ++ (rawptr_vals rule ++ (rawptr_vals book ++ (rawptr_vals
    text ++ (uint_vals w64 text_count ++ (rawptr_vals out ++ (uint_vals w64 out_count ++ (rawptr_vals first ++
    (uint_vals w64 first_count ++ (rawptr_vals second ++ (uint_vals w64 second_count ++ (rawptr_vals types ++
    (uint_vals w64 types_count ++ (rawptr_vals readings ++ (uint_vals w64 count ++ (uint_vals w32 steps ++
    [])))))))))))))))) (W.post (y run rule book text text_count out out_count first first_count second second_count
    types types_count readings count))) in
    qed 𝓛 (raw (on_entry 𝓛 f.signature κs qs a (y a.0 a.1.0 a.1.1.0 a.1.1.1.0 a.1.1.1.1.0 a.1.1.1.1.1.0
    a.1.1.1.1.1.1.0 a.1.1.1.1.1.1.1.0 a.1.1.1.1.1.1.1.1.0 a.1.1.1.1.1.1.1.1.1.0 a.1.1.1.1.1.1.1.1.1.1.0
    a.1.1.1.1.1.1.1.1.1.1.1.0 a.1.1.1.1.1.1.1.1.1.1.1.1.0 a.1.1.1.1.1.1.1.1.1.1.1.1.1.0
    a.1.1.1.1.1.1.1.1.1.1.1.1.1.1.0).0.4) ∷ (raw (fact 𝓤 (Testable a.0 × Testable a.1.0 × Testable a.1.1.0 ×
    Testable a.1.1.1.0 × Testable a.1.1.1.1.1.0 × Testable a.1.1.1.1.1.1.1.0 × Testable a.1.1.1.1.1.1.1.1.1.0 ×
    Testable a.1.1.1.1.1.1.1.1.1.1.1.0 × Testable a.1.1.1.1.1.1.1.1.1.1.1.1.1.0)) ⊛ (raw (fact 𝓤 (Room u8
    a.1.1.1.1.0 × Room u8 a.1.1.1.1.1.1.0 × Room u16 a.1.1.1.1.1.1.1.1.0 × Room u16 a.1.1.1.1.1.1.1.1.1.1.0 × Room
    u16 a.1.1.1.1.1.1.1.1.1.1.1.1.0 × Room i32 a.1.1.1.1.1.1.1.1.1.1.1.1.1.1.0)) ⊛ (‵ (place run_row lent.0 a.0) ⊛
    (‵ (place rule_row lent.1 a.1.0) ⊛ (‵ (place book_row lent.2 a.1.1.0) ⊛ (‵ (shown u8 lent.3.0 a.1.1.1.1.0
    lent.3.1 a.1.1.1.0) ⊛ (‵ (slots u8 a.1.1.1.1.1.1.0 lent.4 a.1.1.1.1.1.0) ⊛ (‵ (slots u16 a.1.1.1.1.1.1.1.1.0
    lent.5 a.1.1.1.1.1.1.1.0) ⊛ (‵ (slots u16 a.1.1.1.1.1.1.1.1.1.1.0 lent.6 a.1.1.1.1.1.1.1.1.1.0) ⊛ (‵ (slots u16
    a.1.1.1.1.1.1.1.1.1.1.1.1.0 lent.7 a.1.1.1.1.1.1.1.1.1.1.1.0) ⊛ ‵ (shown i32 lent.8.0
    a.1.1.1.1.1.1.1.1.1.1.1.1.1.1.0 lent.8.1 a.1.1.1.1.1.1.1.1.1.1.1.1.1.0))))))))))) ∷ []) ∵ drop ! $
    split ! $ heard ! (Testable a.0 × Testable a.1.0 × Testable a.1.1.0 × Testable a.1.1.1.0 × Testable
    a.1.1.1.1.1.0 × Testable a.1.1.1.1.1.1.1.0 × Testable a.1.1.1.1.1.1.1.1.1.0 × Testable a.1.1.1.1.1.1.1.1.1.1.1.0
    × Testable a.1.1.1.1.1.1.1.1.1.1.1.1.1.0) (λ may.
    split ! $ heard ! (Room u8 a.1.1.1.1.0 × Room u8 a.1.1.1.1.1.1.0 × Room u16 a.1.1.1.1.1.1.1.1.0 × Room u16
    a.1.1.1.1.1.1.1.1.1.1.0 × Room u16 a.1.1.1.1.1.1.1.1.1.1.1.1.0 × Room i32 a.1.1.1.1.1.1.1.1.1.1.1.1.1.1.0) (λ
    room.
    split ! $ move ! (1 ∷ []) $ split ! $ move ! (1 ∷ []) $ split ! $ move ! (1 ∷ []) $ split ! $ move ! (1 ∷ []) $
    split ! $ move ! (1 ∷ []) $ split ! $ move ! (1 ∷ []) $ split ! $ move ! (1 ∷ []) $ split ! $
    by_test ! (any_null (a.0 ∷ a.1.0 ∷ a.1.1.0 ∷ a.1.1.1.0 ∷ a.1.1.1.1.1.0 ∷ a.1.1.1.1.1.1.1.0 ∷
    a.1.1.1.1.1.1.1.1.1.0 ∷ a.1.1.1.1.1.1.1.1.1.1.1.0 ∷ a.1.1.1.1.1.1.1.1.1.1.1.1.1.0 ∷ []))
    (λ null. enter ! 𝓣.C 𝓣.Λ code.function _ _ $ alloc_all ! (λ l. pass_all ! refl (
      ((rawptr_Lawful 𝓛).typed a.0 _ refl).0,
      (
        ((rawptr_Lawful 𝓛).typed a.1.0 _ refl).0,
        (
          ((rawptr_Lawful 𝓛).typed
              a.1.1.0 _ refl).0,
          (
            ((rawptr_Lawful 𝓛).typed a.1.1.1.0 _ refl).0,
            (
              (tt, record { fits = are.1.1.1.1.0.1 }),
              (
                ((rawptr_Lawful 𝓛).typed a.1.1.1.1.1.0 _ refl).0,
                (
                  (tt, record { fits = are.1.1.1.1.1.1.0.1 }),
                  (
                    ((rawptr_Lawful 𝓛).typed a.1.1.1.1.1.1.1.0 _ refl).0,
                    (
                      (tt, record { fits = are.1.1.1.1.1.1.1.1.0.1 }),
                      (
                        ((rawptr_Lawful 𝓛).typed a.1.1.1.1.1.1.1.1.1.0 _ refl).0,
                        (
                          (tt, record { fits = are.1.1.1.1.1.1.1.1.1.1.0.1 }),
                          (
                            ((rawptr_Lawful 𝓛).typed a.1.1.1.1.1.1.1.1.1.1.1.0 _ refl).0,
                            (
                              (
                                tt,
                                record {
                                  fits =
                                      are.1.1.1.1.1.1.1.1.1.1.1.1.0.1;
                                },
                              ),
                              (
                                ((rawptr_Lawful 𝓛).typed a.1.1.1.1.1.1.1.1.1.1.1.1.1.0 _ refl).0,
                                (
                                  (
                                    tt,
                                    record { fits = are.1.1.1.1.1.1.1.1.1.1.1.1.1.1.0.1 },
                                  ),
                                  (
                                    (
                                      tt,
                                      record {
                                        fits =
                                            are.1.1.1.1.1.1.1.1.1.1.1.1.1.1.1.0.1;
                                      },
                                    ),
                                    tt,
                                  ),
                                ),
                              ),
                            ),
                          ),
                        ),
                      ),
                    ),
                  ),
                ),
              ),
            ),
          ),
        ),
      ),
    ) $
    sets ! (bin ! (get ! refl) (lit ! tt) (tests_null a.0 may.0)) refl (tt, tt) $
    sets ! (bin ! (get ! refl) (lit ! tt) (tests_null a.1.0 may.1)) refl (tt, tt) $
    sets ! (bin ! (get ! refl) (get ! refl) tt) refl (tt, tt) $
    sets ! (bin ! (get ! refl) (lit ! tt) (tests_null a.1.1.0 may.2)) refl (tt, tt) $
    sets ! (bin ! (get ! refl) (get ! refl) tt) refl (tt, tt) $
    sets ! (bin ! (get ! refl) (lit ! tt) (tests_null a.1.1.1.0 may.3)) refl (tt, tt) $
    sets ! (bin ! (get ! refl) (get ! refl) tt) refl (tt, tt) $
    sets ! (bin ! (get ! refl) (lit ! tt) (tests_null a.1.1.1.1.1.0 may.4)) refl (tt, tt) $
    sets ! (bin ! (get ! refl) (get ! refl) tt) refl (tt, tt) $
    sets ! (bin ! (get ! refl) (lit ! tt) (tests_null a.1.1.1.1.1.1.1.0 may.5)) refl (tt, tt) $
    sets ! (bin ! (get ! refl) (get ! refl) tt) refl (tt, tt) $
    sets ! (bin ! (get ! refl) (lit ! tt) (tests_null a.1.1.1.1.1.1.1.1.1.0 may.6)) refl (tt, tt) $
    sets ! (bin ! (get ! refl) (get ! refl) tt) refl (tt, tt) $
    sets ! (bin ! (get ! refl) (lit ! tt) (tests_null a.1.1.1.1.1.1.1.1.1.1.1.0 may.7)) refl (tt, tt) $
    sets ! (bin ! (get ! refl) (get ! refl) tt) refl (tt, tt) $
    sets ! (bin ! (get ! refl) (lit ! tt) (tests_null a.1.1.1.1.1.1.1.1.1.1.1.1.1.0 may.8)) refl (tt, tt) $
    sets ! (bin ! (get ! refl) (get ! refl) tt) refl (tt, tt) $ first ! $ branches ! (get ! refl) (λ t.
    let N = triple_of 𝓛 n.signature (n.spec 𝓛 𝓜.mem 𝓡.returns) in
    let z : N.Ghost = ((tt, tt, tt, tt, tt), tt) in
    nothing ! $ nothing ! $ join ! $ nothing ! $ move ! (1 ∷ 0 ∷ []) $ join ! $ use1 𝓛 (raw (N.pre z)) (id⊢ 𝓤 _) $
    calls_at ! fm N (null_met.met 𝓤 𝓛 𝓜 𝓡 (code.calls-firmware_c::trying::no_trial 𝓡.env wired)) z (no_more !) (λ v.
    use1 𝓛 (later (some (λ (r : Trial). (‵ ftrue ⊛ ‵ (trial.the_row.own_val r (v ∷ []))) ⊛
    some (λ ws. ‵ (lasts n.ended z.0.0 z.0.3 ws) ⊛ raw (fact 𝓤 (r ≡ null_trial)))))) (id⊢ 𝓤 _) $
    await ! tt $ pick ! (λ r. split ! $ split ! $ drop ! $
    peeks ! trial.the_row (Is trial.the_row) (shows 𝓛 trial.the_row) r (v ∷ []) (λ is. lands_as ! refl refl
    ((the_row_laws.lawful 𝓛).typed r _ is).0 $
    move ! (1 ∷ []) $ pick ! (λ ws. split ! $ drop ! $ heard ! _ (λ replied_so.
    returns_within ! (W.post (y a.0 a.1.0 a.1.1.0 a.1.1.1.0 a.1.1.1.1.0 a.1.1.1.1.1.0 a.1.1.1.1.1.1.0
    a.1.1.1.1.1.1.1.0 a.1.1.1.1.1.1.1.1.0 a.1.1.1.1.1.1.1.1.1.0 a.1.1.1.1.1.1.1.1.1.1.0 a.1.1.1.1.1.1.1.1.1.1.1.0
    a.1.1.1.1.1.1.1.1.1.1.1.1.0 a.1.1.1.1.1.1.1.1.1.1.1.1.1.0 a.1.1.1.1.1.1.1.1.1.1.1.1.1.1.0)) refl (look_at ! 0
    refl) $ free_all ! refl $ move ! (0 ∷ 9 ∷ 8 ∷ 7 ∷ 6 ∷ 5 ∷ 4 ∷ 3 ∷ 1 ∷ 2 ∷ []) $
    suffices ! _ (ends_at 𝓛 f.ended stayed c (y a.0 a.1.0 a.1.1.0 a.1.1.1.0 a.1.1.1.1.0 a.1.1.1.1.1.0
    a.1.1.1.1.1.1.0 a.1.1.1.1.1.1.1.0 a.1.1.1.1.1.1.1.1.0 a.1.1.1.1.1.1.1.1.1.0 a.1.1.1.1.1.1.1.1.1.1.0
    a.1.1.1.1.1.1.1.1.1.1.1.0 a.1.1.1.1.1.1.1.1.1.1.1.1.0 a.1.1.1.1.1.1.1.1.1.1.1.1.1.0
    a.1.1.1.1.1.1.1.1.1.1.1.1.1.1.0) v r (
      tt,
      (
        tt,
        (
          tt,
          (
            tt,
            (
              tt,
              (
                tt,
                (
                  tt,
                  (
                    tt,
                    (
                      tt,
                      (
                        tt,
                        (
                          tt,
                          (
                            tt,
                            (
                              tt,
                              (
                                tt,
                                (
                                  tt,
                                  (tt, tt),
                                ),
                              ),
                            ),
                          ),
                        ),
                      ),
                    ),
                  ),
                ),
              ),
            ),
          ),
        ),
      ),
    ) (
      tt,
      (
        tt,
        (
          tt,
          (
            tt,
            (
              tt,
              (
                tt,
                (
                  tt,
                  (
                    tt,
                    (
                      tt,
                      (
                        tt,
                        (
                          tt,
                          (
                            tt,
                            (
                              tt,
                              (
                                tt,
                                (
                                  tt,
                                  (
                                    tt,
                                    tt,
                                  ),
                                ),
                              ),
                            ),
                          ),
                        ),
                      ),
                    ),
                  ),
                ),
              ),
            ),
          ),
        ),
      ),
    )) $
    nothing ! $ nothing ! $ join ! $ nothing ! $ join ! $ nothing ! $ join ! $ nothing ! $ join ! $ nothing ! $
    join ! $ nothing ! $ join ! $ nothing ! $ join ! $ nothing ! $ join ! $ nothing ! $ join ! $ nothing ! $
    join ! $ nothing ! $ join ! $ nothing ! $ join ! $ nothing ! $ join ! $ nothing ! $ join ! $ nothing ! $
    join ! $ nothing ! $ join ! $ nothing ! $ group ! 3 $ frame ! $
    show ! (λ (left : RunAt × RuleAt × BookAt × List ℕ × List ℕ × List ℕ × List ℕ). sep 𝓤 (sep 𝓤 (sem 𝓛 (place
    run_row left.0 a.0)) (sep 𝓤 (sem 𝓛 (place rule_row left.1 a.1.0)) (sep 𝓤 (sem 𝓛 (place book_row left.2 a.1.1.0))
    (sep 𝓤 (sem 𝓛 (shown u8 lent.3.0 a.1.1.1.1.0 lent.3.1 a.1.1.1.0)) (sep 𝓤 (sem 𝓛 (slots u8 a.1.1.1.1.1.1.0 left.3
    a.1.1.1.1.1.0)) (sep 𝓤 (sem 𝓛 (slots u16 a.1.1.1.1.1.1.1.1.0 left.4 a.1.1.1.1.1.1.1.0)) (sep 𝓤 (sem 𝓛 (slots u16
    a.1.1.1.1.1.1.1.1.1.1.0 left.5 a.1.1.1.1.1.1.1.1.1.0)) (sep 𝓤 (sem 𝓛 (slots u16 a.1.1.1.1.1.1.1.1.1.1.1.1.0
    left.6 a.1.1.1.1.1.1.1.1.1.1.1.0)) (sem 𝓛 (shown i32 lent.8.0 a.1.1.1.1.1.1.1.1.1.1.1.1.1.1.0 lent.8.1
    a.1.1.1.1.1.1.1.1.1.1.1.1.1.0)))))))))) (fact 𝓤 (unless (any_null (a.0 ∷ a.1.0 ∷ a.1.1.0 ∷ a.1.1.1.0 ∷
    a.1.1.1.1.1.0 ∷ a.1.1.1.1.1.1.1.0 ∷ a.1.1.1.1.1.1.1.1.1.0 ∷ a.1.1.1.1.1.1.1.1.1.1.1.0 ∷
    a.1.1.1.1.1.1.1.1.1.1.1.1.1.0 ∷ [])) ((left ≡ (lent.0, lent.1, lent.2, lent.4, lent.5, lent.6, lent.7)) × (r ≡
    null_trial)) ((left.2 ≡ lent.2) × tries lent.3.1 (names lent.2) (buffers lent.4 lent.5 lent.6 lent.7) (buffers
    left.3 left.4 left.5 left.6) lent.0 lent.1 lent.8.1 steps left.0 left.1 r)))) (
      lent.0,
      lent.1,
      lent.2,
      lent.4,
      lent.5,
      lent.6,
      lent.7,
    ) $ says ! (λ _. (refl, replied_so), λ t. absurd (both_ways _ null t)) $ done !))))))
    (λ t. absurd (both_ways _ null t))))
    (λ leads.
    let is_run = in_block_where a.0 (first_false (any_null (a.0 ∷ [])) (is_null a.1.0) (first_false (any_null (a.0 ∷
    a.1.0 ∷ [])) (is_null a.1.1.0) (first_false (any_null (a.0 ∷ a.1.0 ∷ a.1.1.0 ∷ [])) (is_null a.1.1.1.0)
    (first_false (any_null (a.0 ∷ a.1.0 ∷ a.1.1.0 ∷ a.1.1.1.0 ∷ [])) (is_null a.1.1.1.1.1.0) (first_false (any_null
    (a.0 ∷ a.1.0 ∷ a.1.1.0 ∷ a.1.1.1.0 ∷ a.1.1.1.1.1.0 ∷ [])) (is_null a.1.1.1.1.1.1.1.0) (first_false (any_null
    (a.0 ∷ a.1.0 ∷ a.1.1.0 ∷ a.1.1.1.0 ∷ a.1.1.1.1.1.0 ∷ a.1.1.1.1.1.1.1.0 ∷ [])) (is_null a.1.1.1.1.1.1.1.1.1.0)
    (first_false (any_null (a.0 ∷ a.1.0 ∷ a.1.1.0 ∷ a.1.1.1.0 ∷ a.1.1.1.1.1.0 ∷ a.1.1.1.1.1.1.1.0 ∷
    a.1.1.1.1.1.1.1.1.1.0 ∷ [])) (is_null a.1.1.1.1.1.1.1.1.1.1.1.0) (first_false (any_null (a.0 ∷ a.1.0 ∷ a.1.1.0 ∷
    a.1.1.1.0 ∷ a.1.1.1.1.1.0 ∷ a.1.1.1.1.1.1.1.0 ∷ a.1.1.1.1.1.1.1.1.1.0 ∷ a.1.1.1.1.1.1.1.1.1.1.1.0 ∷ []))
    (is_null a.1.1.1.1.1.1.1.1.1.1.1.1.1.0) leads)))))))) in
    let is_rule = in_block_where a.1.0 (second_false (any_null (a.0 ∷ [])) (is_null a.1.0) (first_false (any_null
    (a.0 ∷ a.1.0 ∷ [])) (is_null a.1.1.0) (first_false (any_null (a.0 ∷ a.1.0 ∷ a.1.1.0 ∷ [])) (is_null a.1.1.1.0)
    (first_false (any_null (a.0 ∷ a.1.0 ∷ a.1.1.0 ∷ a.1.1.1.0 ∷ [])) (is_null a.1.1.1.1.1.0) (first_false (any_null
    (a.0 ∷ a.1.0 ∷ a.1.1.0 ∷ a.1.1.1.0 ∷ a.1.1.1.1.1.0 ∷ [])) (is_null a.1.1.1.1.1.1.1.0) (first_false (any_null
    (a.0 ∷ a.1.0 ∷ a.1.1.0 ∷ a.1.1.1.0 ∷ a.1.1.1.1.1.0 ∷ a.1.1.1.1.1.1.1.0 ∷ [])) (is_null a.1.1.1.1.1.1.1.1.1.0)
    (first_false (any_null (a.0 ∷ a.1.0 ∷ a.1.1.0 ∷ a.1.1.1.0 ∷ a.1.1.1.1.1.0 ∷ a.1.1.1.1.1.1.1.0 ∷
    a.1.1.1.1.1.1.1.1.1.0 ∷ [])) (is_null a.1.1.1.1.1.1.1.1.1.1.1.0) (first_false (any_null (a.0 ∷ a.1.0 ∷ a.1.1.0 ∷
    a.1.1.1.0 ∷ a.1.1.1.1.1.0 ∷ a.1.1.1.1.1.1.1.0 ∷ a.1.1.1.1.1.1.1.1.1.0 ∷ a.1.1.1.1.1.1.1.1.1.1.1.0 ∷ []))
    (is_null a.1.1.1.1.1.1.1.1.1.1.1.1.1.0) leads)))))))) in
    let is_book = in_block_where a.1.1.0 (second_false (any_null (a.0 ∷ a.1.0 ∷ [])) (is_null a.1.1.0) (first_false
    (any_null (a.0 ∷ a.1.0 ∷ a.1.1.0 ∷ [])) (is_null a.1.1.1.0) (first_false (any_null (a.0 ∷ a.1.0 ∷ a.1.1.0 ∷
    a.1.1.1.0 ∷ [])) (is_null a.1.1.1.1.1.0) (first_false (any_null (a.0 ∷ a.1.0 ∷ a.1.1.0 ∷ a.1.1.1.0 ∷
    a.1.1.1.1.1.0 ∷ [])) (is_null a.1.1.1.1.1.1.1.0) (first_false (any_null (a.0 ∷ a.1.0 ∷ a.1.1.0 ∷ a.1.1.1.0 ∷
    a.1.1.1.1.1.0 ∷ a.1.1.1.1.1.1.1.0 ∷ [])) (is_null a.1.1.1.1.1.1.1.1.1.0) (first_false (any_null (a.0 ∷ a.1.0 ∷
    a.1.1.0 ∷ a.1.1.1.0 ∷ a.1.1.1.1.1.0 ∷ a.1.1.1.1.1.1.1.0 ∷ a.1.1.1.1.1.1.1.1.1.0 ∷ [])) (is_null
    a.1.1.1.1.1.1.1.1.1.1.1.0) (first_false (any_null (a.0 ∷ a.1.0 ∷ a.1.1.0 ∷ a.1.1.1.0 ∷ a.1.1.1.1.1.0 ∷
    a.1.1.1.1.1.1.1.0 ∷ a.1.1.1.1.1.1.1.1.1.0 ∷ a.1.1.1.1.1.1.1.1.1.1.1.0 ∷ [])) (is_null
    a.1.1.1.1.1.1.1.1.1.1.1.1.1.0) leads))))))) in
    let is_text = in_block_where a.1.1.1.0 (second_false (any_null (a.0 ∷ a.1.0 ∷ a.1.1.0 ∷ [])) (is_null a.1.1.1.0)
    (first_false (any_null (a.0 ∷ a.1.0 ∷ a.1.1.0 ∷ a.1.1.1.0 ∷ [])) (is_null a.1.1.1.1.1.0) (first_false (any_null
    (a.0 ∷ a.1.0 ∷ a.1.1.0 ∷ a.1.1.1.0 ∷ a.1.1.1.1.1.0 ∷ [])) (is_null a.1.1.1.1.1.1.1.0) (first_false (any_null
    (a.0 ∷ a.1.0 ∷ a.1.1.0 ∷ a.1.1.1.0 ∷ a.1.1.1.1.1.0 ∷ a.1.1.1.1.1.1.1.0 ∷ [])) (is_null a.1.1.1.1.1.1.1.1.1.0)
    (first_false (any_null (a.0 ∷ a.1.0 ∷ a.1.1.0 ∷ a.1.1.1.0 ∷ a.1.1.1.1.1.0 ∷ a.1.1.1.1.1.1.1.0 ∷
    a.1.1.1.1.1.1.1.1.1.0 ∷ [])) (is_null a.1.1.1.1.1.1.1.1.1.1.1.0) (first_false (any_null (a.0 ∷ a.1.0 ∷ a.1.1.0 ∷
    a.1.1.1.0 ∷ a.1.1.1.1.1.0 ∷ a.1.1.1.1.1.1.1.0 ∷ a.1.1.1.1.1.1.1.1.1.0 ∷ a.1.1.1.1.1.1.1.1.1.1.1.0 ∷ []))
    (is_null a.1.1.1.1.1.1.1.1.1.1.1.1.1.0) leads)))))) in
    let is_out = in_block_where a.1.1.1.1.1.0 (second_false (any_null (a.0 ∷ a.1.0 ∷ a.1.1.0 ∷ a.1.1.1.0 ∷ []))
    (is_null a.1.1.1.1.1.0) (first_false (any_null (a.0 ∷ a.1.0 ∷ a.1.1.0 ∷ a.1.1.1.0 ∷ a.1.1.1.1.1.0 ∷ []))
    (is_null a.1.1.1.1.1.1.1.0) (first_false (any_null (a.0 ∷ a.1.0 ∷ a.1.1.0 ∷ a.1.1.1.0 ∷ a.1.1.1.1.1.0 ∷
    a.1.1.1.1.1.1.1.0 ∷ [])) (is_null a.1.1.1.1.1.1.1.1.1.0) (first_false (any_null (a.0 ∷ a.1.0 ∷ a.1.1.0 ∷
    a.1.1.1.0 ∷ a.1.1.1.1.1.0 ∷ a.1.1.1.1.1.1.1.0 ∷ a.1.1.1.1.1.1.1.1.1.0 ∷ [])) (is_null a.1.1.1.1.1.1.1.1.1.1.1.0)
    (first_false (any_null (a.0 ∷ a.1.0 ∷ a.1.1.0 ∷ a.1.1.1.0 ∷ a.1.1.1.1.1.0 ∷ a.1.1.1.1.1.1.1.0 ∷
    a.1.1.1.1.1.1.1.1.1.0 ∷ a.1.1.1.1.1.1.1.1.1.1.1.0 ∷ [])) (is_null a.1.1.1.1.1.1.1.1.1.1.1.1.1.0) leads))))) in
    let is_first = in_block_where a.1.1.1.1.1.1.1.0 (second_false (any_null (a.0 ∷ a.1.0 ∷ a.1.1.0 ∷ a.1.1.1.0 ∷
    a.1.1.1.1.1.0 ∷ [])) (is_null a.1.1.1.1.1.1.1.0) (first_false (any_null (a.0 ∷ a.1.0 ∷ a.1.1.0 ∷ a.1.1.1.0 ∷
    a.1.1.1.1.1.0 ∷ a.1.1.1.1.1.1.1.0 ∷ [])) (is_null a.1.1.1.1.1.1.1.1.1.0) (first_false (any_null (a.0 ∷ a.1.0 ∷
    a.1.1.0 ∷ a.1.1.1.0 ∷ a.1.1.1.1.1.0 ∷ a.1.1.1.1.1.1.1.0 ∷ a.1.1.1.1.1.1.1.1.1.0 ∷ [])) (is_null
    a.1.1.1.1.1.1.1.1.1.1.1.0) (first_false (any_null (a.0 ∷ a.1.0 ∷ a.1.1.0 ∷ a.1.1.1.0 ∷ a.1.1.1.1.1.0 ∷
    a.1.1.1.1.1.1.1.0 ∷ a.1.1.1.1.1.1.1.1.1.0 ∷ a.1.1.1.1.1.1.1.1.1.1.1.0 ∷ [])) (is_null
    a.1.1.1.1.1.1.1.1.1.1.1.1.1.0) leads)))) in
    let is_second = in_block_where a.1.1.1.1.1.1.1.1.1.0 (second_false (any_null (a.0 ∷ a.1.0 ∷ a.1.1.0 ∷ a.1.1.1.0
    ∷ a.1.1.1.1.1.0 ∷ a.1.1.1.1.1.1.1.0 ∷ [])) (is_null a.1.1.1.1.1.1.1.1.1.0) (first_false (any_null (a.0 ∷ a.1.0 ∷
    a.1.1.0 ∷ a.1.1.1.0 ∷ a.1.1.1.1.1.0 ∷ a.1.1.1.1.1.1.1.0 ∷ a.1.1.1.1.1.1.1.1.1.0 ∷ [])) (is_null
    a.1.1.1.1.1.1.1.1.1.1.1.0) (first_false (any_null (a.0 ∷ a.1.0 ∷ a.1.1.0 ∷ a.1.1.1.0 ∷ a.1.1.1.1.1.0 ∷
    a.1.1.1.1.1.1.1.0 ∷ a.1.1.1.1.1.1.1.1.1.0 ∷ a.1.1.1.1.1.1.1.1.1.1.1.0 ∷ [])) (is_null
    a.1.1.1.1.1.1.1.1.1.1.1.1.1.0) leads))) in
    let is_types = in_block_where a.1.1.1.1.1.1.1.1.1.1.1.0 (second_false (any_null (a.0 ∷ a.1.0 ∷ a.1.1.0 ∷
    a.1.1.1.0 ∷ a.1.1.1.1.1.0 ∷ a.1.1.1.1.1.1.1.0 ∷ a.1.1.1.1.1.1.1.1.1.0 ∷ [])) (is_null a.1.1.1.1.1.1.1.1.1.1.1.0)
    (first_false (any_null (a.0 ∷ a.1.0 ∷ a.1.1.0 ∷ a.1.1.1.0 ∷ a.1.1.1.1.1.0 ∷ a.1.1.1.1.1.1.1.0 ∷
    a.1.1.1.1.1.1.1.1.1.0 ∷ a.1.1.1.1.1.1.1.1.1.1.1.0 ∷ [])) (is_null a.1.1.1.1.1.1.1.1.1.1.1.1.1.0) leads)) in
    let is_readings = in_block_where a.1.1.1.1.1.1.1.1.1.1.1.1.1.0 (second_false (any_null (a.0 ∷ a.1.0 ∷ a.1.1.0 ∷
    a.1.1.1.0 ∷ a.1.1.1.1.1.0 ∷ a.1.1.1.1.1.1.1.0 ∷ a.1.1.1.1.1.1.1.1.1.0 ∷ a.1.1.1.1.1.1.1.1.1.1.1.0 ∷ []))
    (is_null a.1.1.1.1.1.1.1.1.1.1.1.1.1.0) leads) in
    rewrite ! 8 (λ (p : Ptr). ‵ (place run_row lent.0 p)) is_run refl $
    regoal ! (λ (p : Ptr). at p a.1.0 a.1.1.0 a.1.1.1.0 a.1.1.1.1.0 a.1.1.1.1.1.0 a.1.1.1.1.1.1.0 a.1.1.1.1.1.1.1.0
    a.1.1.1.1.1.1.1.1.0 a.1.1.1.1.1.1.1.1.1.0 a.1.1.1.1.1.1.1.1.1.1.0 a.1.1.1.1.1.1.1.1.1.1.1.0
    a.1.1.1.1.1.1.1.1.1.1.1.1.0 a.1.1.1.1.1.1.1.1.1.1.1.1.1.0 a.1.1.1.1.1.1.1.1.1.1.1.1.1.1.0) is_run refl $
    rewrite ! 7 (λ (p : Ptr). ‵ (place rule_row lent.1 p)) is_rule refl $
    regoal ! (λ (p : Ptr). at (block_ptr (block_of a.0) (count_of a.0)) p a.1.1.0 a.1.1.1.0 a.1.1.1.1.0
    a.1.1.1.1.1.0 a.1.1.1.1.1.1.0 a.1.1.1.1.1.1.1.0 a.1.1.1.1.1.1.1.1.0 a.1.1.1.1.1.1.1.1.1.0
    a.1.1.1.1.1.1.1.1.1.1.0 a.1.1.1.1.1.1.1.1.1.1.1.0 a.1.1.1.1.1.1.1.1.1.1.1.1.0 a.1.1.1.1.1.1.1.1.1.1.1.1.1.0
    a.1.1.1.1.1.1.1.1.1.1.1.1.1.1.0) is_rule refl $
    rewrite ! 6 (λ (p : Ptr). ‵ (place book_row lent.2 p)) is_book refl $
    regoal ! (λ (p : Ptr). at (block_ptr (block_of a.0) (count_of a.0)) (block_ptr (block_of a.1.0) (count_of
    a.1.0)) p a.1.1.1.0 a.1.1.1.1.0 a.1.1.1.1.1.0 a.1.1.1.1.1.1.0 a.1.1.1.1.1.1.1.0 a.1.1.1.1.1.1.1.1.0
    a.1.1.1.1.1.1.1.1.1.0 a.1.1.1.1.1.1.1.1.1.1.0 a.1.1.1.1.1.1.1.1.1.1.1.0 a.1.1.1.1.1.1.1.1.1.1.1.1.0
    a.1.1.1.1.1.1.1.1.1.1.1.1.1.0 a.1.1.1.1.1.1.1.1.1.1.1.1.1.1.0) is_book refl $
    rewrite ! 5 (λ (p : Ptr). ‵ (shown u8 lent.3.0 a.1.1.1.1.0 lent.3.1 p)) is_text refl $
    regoal ! (λ (p : Ptr). at (block_ptr (block_of a.0) (count_of a.0)) (block_ptr (block_of a.1.0) (count_of
    a.1.0)) (block_ptr (block_of a.1.1.0) (count_of a.1.1.0)) p a.1.1.1.1.0 a.1.1.1.1.1.0 a.1.1.1.1.1.1.0
    a.1.1.1.1.1.1.1.0 a.1.1.1.1.1.1.1.1.0 a.1.1.1.1.1.1.1.1.1.0 a.1.1.1.1.1.1.1.1.1.1.0 a.1.1.1.1.1.1.1.1.1.1.1.0
    a.1.1.1.1.1.1.1.1.1.1.1.1.0 a.1.1.1.1.1.1.1.1.1.1.1.1.1.0 a.1.1.1.1.1.1.1.1.1.1.1.1.1.1.0) is_text refl $
    rewrite ! 4 (λ (p : Ptr). ‵ (slots u8 a.1.1.1.1.1.1.0 lent.4 p)) is_out refl $
    regoal ! (λ (p : Ptr). at (block_ptr (block_of a.0) (count_of a.0)) (block_ptr (block_of a.1.0) (count_of
    a.1.0)) (block_ptr (block_of a.1.1.0) (count_of a.1.1.0)) (block_ptr (block_of a.1.1.1.0) (count_of a.1.1.1.0))
    a.1.1.1.1.0 p a.1.1.1.1.1.1.0 a.1.1.1.1.1.1.1.0 a.1.1.1.1.1.1.1.1.0 a.1.1.1.1.1.1.1.1.1.0
    a.1.1.1.1.1.1.1.1.1.1.0 a.1.1.1.1.1.1.1.1.1.1.1.0 a.1.1.1.1.1.1.1.1.1.1.1.1.0 a.1.1.1.1.1.1.1.1.1.1.1.1.1.0
    a.1.1.1.1.1.1.1.1.1.1.1.1.1.1.0) is_out refl $
    rewrite ! 3 (λ (p : Ptr). ‵ (slots u16 a.1.1.1.1.1.1.1.1.0 lent.5 p)) is_first refl $
    regoal ! (λ (p : Ptr). at (block_ptr (block_of a.0) (count_of a.0)) (block_ptr (block_of a.1.0) (count_of
    a.1.0)) (block_ptr (block_of a.1.1.0) (count_of a.1.1.0)) (block_ptr (block_of a.1.1.1.0) (count_of a.1.1.1.0))
    a.1.1.1.1.0 (block_ptr (block_of a.1.1.1.1.1.0) (count_of a.1.1.1.1.1.0)) a.1.1.1.1.1.1.0 p a.1.1.1.1.1.1.1.1.0
    a.1.1.1.1.1.1.1.1.1.0 a.1.1.1.1.1.1.1.1.1.1.0 a.1.1.1.1.1.1.1.1.1.1.1.0 a.1.1.1.1.1.1.1.1.1.1.1.1.0
    a.1.1.1.1.1.1.1.1.1.1.1.1.1.0 a.1.1.1.1.1.1.1.1.1.1.1.1.1.1.0) is_first refl $
    rewrite ! 2 (λ (p : Ptr). ‵ (slots u16 a.1.1.1.1.1.1.1.1.1.1.0 lent.6 p)) is_second refl $
    regoal ! (λ (p : Ptr). at (block_ptr (block_of a.0) (count_of a.0)) (block_ptr (block_of a.1.0) (count_of
    a.1.0)) (block_ptr (block_of a.1.1.0) (count_of a.1.1.0)) (block_ptr (block_of a.1.1.1.0) (count_of a.1.1.1.0))
    a.1.1.1.1.0 (block_ptr (block_of a.1.1.1.1.1.0) (count_of a.1.1.1.1.1.0)) a.1.1.1.1.1.1.0 (block_ptr (block_of
    a.1.1.1.1.1.1.1.0) (count_of a.1.1.1.1.1.1.1.0)) a.1.1.1.1.1.1.1.1.0 p a.1.1.1.1.1.1.1.1.1.1.0
    a.1.1.1.1.1.1.1.1.1.1.1.0 a.1.1.1.1.1.1.1.1.1.1.1.1.0 a.1.1.1.1.1.1.1.1.1.1.1.1.1.0
    a.1.1.1.1.1.1.1.1.1.1.1.1.1.1.0) is_second refl $
    rewrite ! 0 (λ (p : Ptr). ‵ (slots u16 a.1.1.1.1.1.1.1.1.1.1.1.1.0 lent.7 p)) is_types refl $
    regoal ! (λ (p : Ptr). at (block_ptr (block_of a.0) (count_of a.0)) (block_ptr (block_of a.1.0) (count_of
    a.1.0)) (block_ptr (block_of a.1.1.0) (count_of a.1.1.0)) (block_ptr (block_of a.1.1.1.0) (count_of a.1.1.1.0))
    a.1.1.1.1.0 (block_ptr (block_of a.1.1.1.1.1.0) (count_of a.1.1.1.1.1.0)) a.1.1.1.1.1.1.0 (block_ptr (block_of
    a.1.1.1.1.1.1.1.0) (count_of a.1.1.1.1.1.1.1.0)) a.1.1.1.1.1.1.1.1.0 (block_ptr (block_of a.1.1.1.1.1.1.1.1.1.0)
    (count_of a.1.1.1.1.1.1.1.1.1.0)) a.1.1.1.1.1.1.1.1.1.1.0 p a.1.1.1.1.1.1.1.1.1.1.1.1.0
    a.1.1.1.1.1.1.1.1.1.1.1.1.1.0 a.1.1.1.1.1.1.1.1.1.1.1.1.1.1.0) is_types refl $
    rewrite ! 1 (λ (p : Ptr). ‵ (shown i32 lent.8.0 a.1.1.1.1.1.1.1.1.1.1.1.1.1.1.0 lent.8.1 p)) is_readings refl $
    regoal ! (λ (p : Ptr). at (block_ptr (block_of a.0) (count_of a.0)) (block_ptr (block_of a.1.0) (count_of
    a.1.0)) (block_ptr (block_of a.1.1.0) (count_of a.1.1.0)) (block_ptr (block_of a.1.1.1.0) (count_of a.1.1.1.0))
    a.1.1.1.1.0 (block_ptr (block_of a.1.1.1.1.1.0) (count_of a.1.1.1.1.1.0)) a.1.1.1.1.1.1.0 (block_ptr (block_of
    a.1.1.1.1.1.1.1.0) (count_of a.1.1.1.1.1.1.1.0)) a.1.1.1.1.1.1.1.1.0 (block_ptr (block_of a.1.1.1.1.1.1.1.1.1.0)
    (count_of a.1.1.1.1.1.1.1.1.1.0)) a.1.1.1.1.1.1.1.1.1.1.0 (block_ptr (block_of a.1.1.1.1.1.1.1.1.1.1.1.0)
    (count_of a.1.1.1.1.1.1.1.1.1.1.1.0)) a.1.1.1.1.1.1.1.1.1.1.1.1.0 p a.1.1.1.1.1.1.1.1.1.1.1.1.1.1.0) is_readings
    refl $ move ! (5 ∷ []) $ fsplit ! $ feq_l ! (λ long_text.
    feq_i ! ℕ (length lent.3.1) (length lent.3.1) refl $ fjoin ! $
    regoal ! (λ (n : ℕ). at (block_ptr (block_of a.0) (count_of a.0)) (block_ptr (block_of a.1.0) (count_of a.1.0))
    (block_ptr (block_of a.1.1.0) (count_of a.1.1.0)) (block_ptr (block_of a.1.1.1.0) (count_of a.1.1.1.0)) n
    (block_ptr (block_of a.1.1.1.1.1.0) (count_of a.1.1.1.1.1.0)) a.1.1.1.1.1.1.0 (block_ptr (block_of
    a.1.1.1.1.1.1.1.0) (count_of a.1.1.1.1.1.1.1.0)) a.1.1.1.1.1.1.1.1.0 (block_ptr (block_of a.1.1.1.1.1.1.1.1.1.0)
    (count_of a.1.1.1.1.1.1.1.1.1.0)) a.1.1.1.1.1.1.1.1.1.1.0 (block_ptr (block_of a.1.1.1.1.1.1.1.1.1.1.1.0)
    (count_of a.1.1.1.1.1.1.1.1.1.1.1.0)) a.1.1.1.1.1.1.1.1.1.1.1.1.0 (block_ptr (block_of
    a.1.1.1.1.1.1.1.1.1.1.1.1.1.0) (count_of a.1.1.1.1.1.1.1.1.1.1.1.1.1.0)) a.1.1.1.1.1.1.1.1.1.1.1.1.1.1.0) (sym
    long_text) refl $
    let room_text : Room u8 (length lent.3.1) = subst (Room u8) (sym long_text) room.0 in
    move ! (5 ∷ []) $ fsplit ! $ feq_l ! (λ long_out.
    regoal ! (λ (n : ℕ). at (block_ptr (block_of a.0) (count_of a.0)) (block_ptr (block_of a.1.0) (count_of a.1.0))
    (block_ptr (block_of a.1.1.0) (count_of a.1.1.0)) (block_ptr (block_of a.1.1.1.0) (count_of a.1.1.1.0)) ((length
    lent.3.1)) (block_ptr (block_of a.1.1.1.1.1.0) (count_of a.1.1.1.1.1.0)) n (block_ptr (block_of
    a.1.1.1.1.1.1.1.0) (count_of a.1.1.1.1.1.1.1.0)) a.1.1.1.1.1.1.1.1.0 (block_ptr (block_of a.1.1.1.1.1.1.1.1.1.0)
    (count_of a.1.1.1.1.1.1.1.1.1.0)) a.1.1.1.1.1.1.1.1.1.1.0 (block_ptr (block_of a.1.1.1.1.1.1.1.1.1.1.1.0)
    (count_of a.1.1.1.1.1.1.1.1.1.1.1.0)) a.1.1.1.1.1.1.1.1.1.1.1.1.0 (block_ptr (block_of
    a.1.1.1.1.1.1.1.1.1.1.1.1.1.0) (count_of a.1.1.1.1.1.1.1.1.1.1.1.1.1.0)) a.1.1.1.1.1.1.1.1.1.1.1.1.1.1.0) (sym
    long_out) refl $
    let room_out : Room u8 (length lent.4) = subst (Room u8) (sym long_out) room.1 in
    move ! (5 ∷ []) $ fsplit ! $ feq_l ! (λ long_first.
    regoal ! (λ (n : ℕ). at (block_ptr (block_of a.0) (count_of a.0)) (block_ptr (block_of a.1.0) (count_of a.1.0))
    (block_ptr (block_of a.1.1.0) (count_of a.1.1.0)) (block_ptr (block_of a.1.1.1.0) (count_of a.1.1.1.0)) ((length
    lent.3.1)) (block_ptr (block_of a.1.1.1.1.1.0) (count_of a.1.1.1.1.1.0)) ((length lent.4)) (block_ptr (block_of
    a.1.1.1.1.1.1.1.0) (count_of a.1.1.1.1.1.1.1.0)) n (block_ptr (block_of a.1.1.1.1.1.1.1.1.1.0) (count_of
    a.1.1.1.1.1.1.1.1.1.0)) a.1.1.1.1.1.1.1.1.1.1.0 (block_ptr (block_of a.1.1.1.1.1.1.1.1.1.1.1.0) (count_of
    a.1.1.1.1.1.1.1.1.1.1.1.0)) a.1.1.1.1.1.1.1.1.1.1.1.1.0 (block_ptr (block_of a.1.1.1.1.1.1.1.1.1.1.1.1.1.0)
    (count_of a.1.1.1.1.1.1.1.1.1.1.1.1.1.0)) a.1.1.1.1.1.1.1.1.1.1.1.1.1.1.0) (sym long_first) refl $
    let room_first : Room u16 (length lent.5) = subst (Room u16) (sym long_first) room.2 in
    move ! (5 ∷ []) $ fsplit ! $ feq_l ! (λ long_second.
    regoal ! (λ (n : ℕ). at (block_ptr (block_of a.0) (count_of a.0)) (block_ptr (block_of a.1.0) (count_of a.1.0))
    (block_ptr (block_of a.1.1.0) (count_of a.1.1.0)) (block_ptr (block_of a.1.1.1.0) (count_of a.1.1.1.0)) ((length
    lent.3.1)) (block_ptr (block_of a.1.1.1.1.1.0) (count_of a.1.1.1.1.1.0)) ((length lent.4)) (block_ptr (block_of
    a.1.1.1.1.1.1.1.0) (count_of a.1.1.1.1.1.1.1.0)) ((length lent.5)) (block_ptr (block_of a.1.1.1.1.1.1.1.1.1.0)
    (count_of a.1.1.1.1.1.1.1.1.1.0)) n (block_ptr (block_of a.1.1.1.1.1.1.1.1.1.1.1.0) (count_of
    a.1.1.1.1.1.1.1.1.1.1.1.0)) a.1.1.1.1.1.1.1.1.1.1.1.1.0 (block_ptr (block_of a.1.1.1.1.1.1.1.1.1.1.1.1.1.0)
    (count_of a.1.1.1.1.1.1.1.1.1.1.1.1.1.0)) a.1.1.1.1.1.1.1.1.1.1.1.1.1.1.0) (sym long_second) refl $
    let room_second : Room u16 (length lent.6) = subst (Room u16) (sym long_second) room.3 in
    move ! (4 ∷ []) $ fsplit ! $ feq_l ! (λ long_types.
    regoal ! (λ (n : ℕ). at (block_ptr (block_of a.0) (count_of a.0)) (block_ptr (block_of a.1.0) (count_of a.1.0))
    (block_ptr (block_of a.1.1.0) (count_of a.1.1.0)) (block_ptr (block_of a.1.1.1.0) (count_of a.1.1.1.0)) ((length
    lent.3.1)) (block_ptr (block_of a.1.1.1.1.1.0) (count_of a.1.1.1.1.1.0)) ((length lent.4)) (block_ptr (block_of
    a.1.1.1.1.1.1.1.0) (count_of a.1.1.1.1.1.1.1.0)) ((length lent.5)) (block_ptr (block_of a.1.1.1.1.1.1.1.1.1.0)
    (count_of a.1.1.1.1.1.1.1.1.1.0)) ((length lent.6)) (block_ptr (block_of a.1.1.1.1.1.1.1.1.1.1.1.0) (count_of
    a.1.1.1.1.1.1.1.1.1.1.1.0)) n (block_ptr (block_of a.1.1.1.1.1.1.1.1.1.1.1.1.1.0) (count_of
    a.1.1.1.1.1.1.1.1.1.1.1.1.1.0)) a.1.1.1.1.1.1.1.1.1.1.1.1.1.1.0) (sym long_types) refl $
    let room_types : Room u16 (length lent.7) = subst (Room u16) (sym long_types) room.4 in
    move ! (5 ∷ []) $ fsplit ! $ feq_l ! (λ long_readings.
    feq_i ! ℕ (length lent.8.1) (length lent.8.1) refl $ fjoin ! $
    regoal ! (λ (n : ℕ). at (block_ptr (block_of a.0) (count_of a.0)) (block_ptr (block_of a.1.0) (count_of a.1.0))
    (block_ptr (block_of a.1.1.0) (count_of a.1.1.0)) (block_ptr (block_of a.1.1.1.0) (count_of a.1.1.1.0)) ((length
    lent.3.1)) (block_ptr (block_of a.1.1.1.1.1.0) (count_of a.1.1.1.1.1.0)) ((length lent.4)) (block_ptr (block_of
    a.1.1.1.1.1.1.1.0) (count_of a.1.1.1.1.1.1.1.0)) ((length lent.5)) (block_ptr (block_of a.1.1.1.1.1.1.1.1.1.0)
    (count_of a.1.1.1.1.1.1.1.1.1.0)) ((length lent.6)) (block_ptr (block_of a.1.1.1.1.1.1.1.1.1.1.1.0) (count_of
    a.1.1.1.1.1.1.1.1.1.1.1.0)) ((length lent.7)) (block_ptr (block_of a.1.1.1.1.1.1.1.1.1.1.1.1.1.0) (count_of
    a.1.1.1.1.1.1.1.1.1.1.1.1.1.0)) n) (sym long_readings) refl $
    let room_readings : Room i32 (length lent.8.1) = subst (Room i32) (sym long_readings) room.5 in
    enter ! 𝓣.C 𝓣.Λ code.function _ _ $ alloc_all ! (λ l. pass_all ! refl (
      (tt, tt),
      (
        (tt, tt),
        (
          (tt, tt),
          (
            (tt, tt),
            (
              (tt, record { fits = room_text.0 }),
              (
                (tt, tt),
                (
                  (
                    tt,
                    record {
                      fits
                          = room_out.0;
                    },
                  ),
                  (
                    (tt, tt),
                    (
                      (tt, record { fits = room_first.0 }),
                      (
                        (tt, tt),
                        (
                          (
                            tt,
                            record {
                              fits =
                                  room_second.0;
                            },
                          ),
                          (
                            (tt, tt),
                            (
                              (tt, record { fits = room_types.0 }),
                              (
                                (tt, tt),
                                (
                                  (
                                    tt,
                                    record {
                                      fits =
                                          room_readings.0;
                                    },
                                  ),
                                  ((tt, record { fits = are.1.1.1.1.1.1.1.1.1.1.1.1.1.1.1.0.1 }), tt),
                                ),
                              ),
                            ),
                          ),
                        ),
                      ),
                    ),
                  ),
                ),
              ),
            ),
          ),
        ),
      ),
    ) $
    sets ! (bin ! (get ! refl) (lit ! tt) (tests_null (block_ptr (block_of a.0) (count_of a.0)) (subst Testable
    is_run may.0))) refl (tt, tt) $
    sets ! (bin ! (get ! refl) (lit ! tt) (tests_null (block_ptr (block_of a.1.0) (count_of a.1.0)) (subst Testable
    is_rule may.1))) refl (tt, tt) $ sets ! (bin ! (get ! refl) (get ! refl) tt) refl (tt, tt) $
    sets ! (bin ! (get ! refl) (lit ! tt) (tests_null (block_ptr (block_of a.1.1.0) (count_of a.1.1.0)) (subst
    Testable is_book may.2))) refl (tt, tt) $ sets ! (bin ! (get ! refl) (get ! refl) tt) refl (tt, tt) $
    sets ! (bin ! (get ! refl) (lit ! tt) (tests_null (block_ptr (block_of a.1.1.1.0) (count_of a.1.1.1.0)) (subst
    Testable is_text may.3))) refl (tt, tt) $ sets ! (bin ! (get ! refl) (get ! refl) tt) refl (tt, tt) $
    sets ! (bin ! (get ! refl) (lit ! tt) (tests_null (block_ptr (block_of a.1.1.1.1.1.0) (count_of a.1.1.1.1.1.0))
    (subst Testable is_out may.4))) refl (tt, tt) $ sets ! (bin ! (get ! refl) (get ! refl) tt) refl (tt, tt) $
    sets ! (bin ! (get ! refl) (lit ! tt) (tests_null (block_ptr (block_of a.1.1.1.1.1.1.1.0) (count_of
    a.1.1.1.1.1.1.1.0)) (subst Testable is_first may.5))) refl (tt, tt) $
    sets ! (bin ! (get ! refl) (get ! refl) tt) refl (tt, tt) $
    sets ! (bin ! (get ! refl) (lit ! tt) (tests_null (block_ptr (block_of a.1.1.1.1.1.1.1.1.1.0) (count_of
    a.1.1.1.1.1.1.1.1.1.0)) (subst Testable is_second may.6))) refl (tt, tt) $
    sets ! (bin ! (get ! refl) (get ! refl) tt) refl (tt, tt) $
    sets ! (bin ! (get ! refl) (lit ! tt) (tests_null (block_ptr (block_of a.1.1.1.1.1.1.1.1.1.1.1.0) (count_of
    a.1.1.1.1.1.1.1.1.1.1.1.0)) (subst Testable is_types may.7))) refl (tt, tt) $
    sets ! (bin ! (get ! refl) (get ! refl) tt) refl (tt, tt) $
    sets ! (bin ! (get ! refl) (lit ! tt) (tests_null (block_ptr (block_of a.1.1.1.1.1.1.1.1.1.1.1.1.1.0) (count_of
    a.1.1.1.1.1.1.1.1.1.1.1.1.1.0)) (subst Testable is_readings may.8))) refl (tt, tt) $
    sets ! (bin ! (get ! refl) (get ! refl) tt) refl (tt, tt) $
    first ! $ branches ! (get ! refl) (λ t. absurd t) (λ t. skips ! $
    exec ! 𝓣.C 𝓣.Λ (env code.Mir.locals l) code.Mir.t-19 (at_ret _ (W.post (y (block_ptr (block_of a.0) (count_of
    a.0)) (block_ptr (block_of a.1.0) (count_of a.1.0)) (block_ptr (block_of a.1.1.0) (count_of a.1.1.0)) (block_ptr
    (block_of a.1.1.1.0) (count_of a.1.1.1.0)) (length lent.3.1) (block_ptr (block_of a.1.1.1.1.1.0) (count_of
    a.1.1.1.1.1.0)) (length lent.4) (block_ptr (block_of a.1.1.1.1.1.1.1.0) (count_of a.1.1.1.1.1.1.1.0)) (length
    lent.5) (block_ptr (block_of a.1.1.1.1.1.1.1.1.1.0) (count_of a.1.1.1.1.1.1.1.1.1.0)) (length lent.6) (block_ptr
    (block_of a.1.1.1.1.1.1.1.1.1.1.1.0) (count_of a.1.1.1.1.1.1.1.1.1.1.1.0)) (length lent.7) (block_ptr (block_of
    a.1.1.1.1.1.1.1.1.1.1.1.1.1.0) (count_of a.1.1.1.1.1.1.1.1.1.1.1.1.1.0)) (length lent.8.1)))) $
    sets ! (of_opd ! (get ! refl)) refl (tt, tt) $ sets ! (addr ! (through ! refl (stop !))) refl (tt, tt) $
    sets ! (of_opd ! (get ! refl)) refl (tt, tt) $ sets ! (addr ! (through ! refl (stop !))) refl (tt, tt) $
    sets ! (of_opd ! (get ! refl)) refl (tt, tt) $ sets ! (addr ! (through ! refl (stop !))) refl (tt, tt) $
    sets ! (agg ! (and_then ! (get ! refl) (and_then ! (get ! refl) (no_more !)))) refl (
      tt,
      (
        tt,
        (
          record {
            fits =
                room_text.0;
          },
          tt,
        ),
      ),
    ) $
    sets ! (agg ! (and_then ! (get ! refl) (and_then ! (get ! refl) (no_more !)))) refl (
      tt,
      (
        tt,
        (
          record {
            fits =
                room_out.0;
          },
          tt,
        ),
      ),
    ) $
    sets ! (agg ! (and_then ! (get ! refl) (and_then ! (get ! refl) (no_more !)))) refl (
      tt,
      (
        tt,
        (
          record {
            fits =
                room_first.0;
          },
          tt,
        ),
      ),
    ) $
    sets ! (agg ! (and_then ! (get ! refl) (and_then ! (get ! refl) (no_more !)))) refl (
      tt,
      (
        tt,
        (
          record {
            fits =
                room_second.0;
          },
          tt,
        ),
      ),
    ) $
    sets ! (agg ! (and_then ! (get ! refl) (and_then ! (get ! refl) (no_more !)))) refl (
      tt,
      (
        tt,
        (
          record {
            fits =
                room_types.0;
          },
          tt,
        ),
      ),
    ) $
    sets ! (agg ! (and_then ! (get ! refl) (and_then ! (get ! refl) (no_more !)))) refl (
      tt,
      (
        tt,
        (
          record {
            fits =
                room_readings.0;
          },
          tt,
        ),
      ),
    ) $
    let at_run : ℕ → MutBor run_row.Denot = λ δ. record {
      ref_ptr = (block_of a.0, count_of a.0);
      ghost_name = δ;
      now = lent.0;
    } in
    let at_rule : ℕ → MutBor rule_row.Denot = λ δ. record {
      ref_ptr = (block_of a.1.0, count_of a.1.0);
      ghost_name =
          δ;
      now = lent.1;
    } in
    let at_book : ℕ → MutBor book_row.Denot = λ δ. record {
      ref_ptr = (block_of a.1.1.0, count_of a.1.1.0);
      ghost_name = δ;
      now = lent.2;
    } in
    let at_text : Bor (List ℕ) = record { ref_ptr = (block_of a.1.1.1.0, count_of a.1.1.1.0); now = lent.3.1 } in
    let at_out : ℕ → MutBor (List ℕ) = λ δ. record {
      ref_ptr = (block_of a.1.1.1.1.1.0, count_of a.1.1.1.1.1.0);
      ghost_name = δ;
      now = lent.4;
    } in
    let at_first : ℕ → MutBor (List ℕ) = λ δ. record {
      ref_ptr = (
        block_of a.1.1.1.1.1.1.1.0,
        count_of
            a.1.1.1.1.1.1.1.0,
      );
      ghost_name = δ;
      now = lent.5;
    } in
    let at_second : ℕ → MutBor (List ℕ) = λ δ. record {
      ref_ptr = (
        block_of a.1.1.1.1.1.1.1.1.1.0,
        count_of
            a.1.1.1.1.1.1.1.1.1.0,
      );
      ghost_name = δ;
      now = lent.6;
    } in
    let at_types : ℕ → MutBor (List ℕ) = λ δ. record {
      ref_ptr = (
        block_of a.1.1.1.1.1.1.1.1.1.1.1.0,
        count_of
            a.1.1.1.1.1.1.1.1.1.1.1.0,
      );
      ghost_name = δ;
      now = lent.7;
    } in
    let at_readings : Bor (List ℤ) = record {
      ref_ptr = (
        block_of a.1.1.1.1.1.1.1.1.1.1.1.1.1.0,
        count_of
            a.1.1.1.1.1.1.1.1.1.1.1.1.1.0,
      );
      now = lent.8.1;
    } in
    lft_new ! tt (λ α0.
    move ! (9 ∷ []) $
    use1 𝓛 (later (some (λ (δ : ℕ). ‵ ((MutRef (named 0) (α0 ∷ []) run_row).own_val (at_run δ) (mut_vals (at_run
    δ))) ⊛ ‵ (flent (α0 ∷ []) (Body (mem run_row) (block_of a.0) (count_of a.0) δ)))))
    (lends_ref 𝓛 run_row (named 0) (α0 ∷ []) lent.0 (block_of a.0) (count_of a.0)) $ await ! tt $
    pick ! (λ δ0. split ! $ lft_new ! tt (λ α1.
    move ! (11 ∷ []) $
    use1 𝓛 (later (some (λ (δ : ℕ). ‵ ((MutRef (named 1) (α1 ∷ []) rule_row).own_val (at_rule δ) (mut_vals (at_rule
    δ))) ⊛ ‵ (flent (α1 ∷ []) (Body (mem rule_row) (block_of a.1.0) (count_of a.1.0) δ)))))
    (lends_ref 𝓛 rule_row (named 1) (α1 ∷ []) lent.1 (block_of a.1.0) (count_of a.1.0)) $ await ! tt $
    pick ! (λ δ1. split ! $ lft_new ! tt (λ α2.
    move ! (13 ∷ []) $
    use1 𝓛 (later (some (λ (δ : ℕ). ‵ ((MutRef (named 2) (α2 ∷ []) book_row).own_val (at_book δ) (mut_vals (at_book
    δ))) ⊛ ‵ (flent (α2 ∷ []) (Body (mem book_row) (block_of a.1.1.0) (count_of a.1.1.0) δ)))))
    (lends_ref 𝓛 book_row (named 2) (α2 ∷ []) lent.2 (block_of a.1.1.0) (count_of a.1.1.0)) $ await ! tt $
    pick ! (λ δ2. split ! $ lft_new ! tt (λ α3.
    move ! (15 ∷ 0 ∷ []) $
    use2 𝓛 (later ((‵ ((ShrSlice (named 3) (α3 ∷ []) u8).own_val at_text (slice_val (
      block_of a.1.1.1.0,
      count_of
          a.1.1.1.0,
    ) (length lent.3.1) ∷ [])) ⊛
    ‵ (flent (α3 ∷ []) ((arr_parts (shares u8) (length lent.3.1)).part lent.3.0 lent.3.1 (block_of a.1.1.1.0)
    (count_of a.1.1.1.0)))) ⊛ ‵ (flft (α3 ∷ []) full_share)))
    (lends_shr_slice 𝓛 u8 (named 3) (α3 ∷ []) lent.3.0 lent.3.1 (block_of a.1.1.1.0) (count_of a.1.1.1.0) room_text
    (α3 ∷ []) ((uint_Copied 𝓛 w8).shares lent.3.0 (α3 ∷ [])) (((α3 ∷ []), full_share) ∷ []) (Incl-refl (α3 ∷ []))
    (Incl-refl (α3 ∷ []))) $ await ! tt $ split ! $ split ! $ lft_new ! tt (λ α4.
    move ! (17 ∷ []) $
    use1 𝓛 (later (some (λ (δ : ℕ). ‵ ((MutSlice (named 4) (α4 ∷ []) u8).own_val (at_out δ) (slice_val (
      block_of
          a.1.1.1.1.1.0,
      count_of a.1.1.1.1.1.0,
    ) (length lent.4) ∷ [])) ⊛ ‵ (flent (α4 ∷ []) (Held u8 (length lent.4)
    (block_of a.1.1.1.1.1.0) (count_of a.1.1.1.1.1.0) δ)))))
    (lends_slice 𝓛 u8 (named 4) (α4 ∷ []) lent.4 (block_of a.1.1.1.1.1.0) (count_of a.1.1.1.1.1.0) room_out) $
    await ! tt $ pick ! (λ δ4. split ! $ lft_new ! tt (λ α5.
    move ! (19 ∷ []) $
    use1 𝓛 (later (some (λ (δ : ℕ). ‵ ((MutSlice (named 5) (α5 ∷ []) u16).own_val (at_first δ) (slice_val (
      block_of
          a.1.1.1.1.1.1.1.0,
      count_of a.1.1.1.1.1.1.1.0,
    ) (length lent.5) ∷ [])) ⊛ ‵ (flent (α5 ∷ []) (Held u16 (length
    lent.5) (block_of a.1.1.1.1.1.1.1.0) (count_of a.1.1.1.1.1.1.1.0) δ)))))
    (lends_slice 𝓛 u16 (named 5) (α5 ∷ []) lent.5 (block_of a.1.1.1.1.1.1.1.0) (count_of a.1.1.1.1.1.1.1.0)
    room_first) $ await ! tt $ pick ! (λ δ5. split ! $ lft_new ! tt (λ α6.
    move ! (21 ∷ []) $
    use1 𝓛 (later (some (λ (δ : ℕ). ‵ ((MutSlice (named 6) (α6 ∷ []) u16).own_val (at_second δ) (slice_val (
      block_of
          a.1.1.1.1.1.1.1.1.1.0,
      count_of a.1.1.1.1.1.1.1.1.1.0,
    ) (length lent.6) ∷ [])) ⊛ ‵ (flent (α6 ∷ []) (Held u16
    (length lent.6) (block_of a.1.1.1.1.1.1.1.1.1.0) (count_of a.1.1.1.1.1.1.1.1.1.0) δ)))))
    (lends_slice 𝓛 u16 (named 6) (α6 ∷ []) lent.6 (block_of a.1.1.1.1.1.1.1.1.1.0) (count_of a.1.1.1.1.1.1.1.1.1.0)
    room_second) $ await ! tt $ pick ! (λ δ6. split ! $ lft_new ! tt (λ α7.
    move ! (23 ∷ []) $
    use1 𝓛 (later (some (λ (δ : ℕ). ‵ ((MutSlice (named 7) (α7 ∷ []) u16).own_val (at_types δ) (slice_val (
      block_of
          a.1.1.1.1.1.1.1.1.1.1.1.0,
      count_of a.1.1.1.1.1.1.1.1.1.1.1.0,
    ) (length lent.7) ∷ [])) ⊛ ‵ (flent (α7 ∷ []) (Held
    u16 (length lent.7) (block_of a.1.1.1.1.1.1.1.1.1.1.1.0) (count_of a.1.1.1.1.1.1.1.1.1.1.1.0) δ)))))
    (lends_slice 𝓛 u16 (named 7) (α7 ∷ []) lent.7 (block_of a.1.1.1.1.1.1.1.1.1.1.1.0) (count_of
    a.1.1.1.1.1.1.1.1.1.1.1.0) room_types) $ await ! tt $ pick ! (λ δ7. split ! $ lft_new ! tt (λ α8.
    move ! (25 ∷ 0 ∷ []) $
    use2 𝓛 (later ((‵ ((ShrSlice (named 8) (α8 ∷ []) i32).own_val at_readings (slice_val (
      block_of
          a.1.1.1.1.1.1.1.1.1.1.1.1.1.0,
      count_of a.1.1.1.1.1.1.1.1.1.1.1.1.1.0,
    ) (length lent.8.1) ∷ [])) ⊛
    ‵ (flent (α8 ∷ []) ((arr_parts (shares i32) (length lent.8.1)).part lent.8.0 lent.8.1 (block_of
    a.1.1.1.1.1.1.1.1.1.1.1.1.1.0) (count_of a.1.1.1.1.1.1.1.1.1.1.1.1.1.0)))) ⊛ ‵ (flft (α8 ∷ []) full_share)))
    (lends_shr_slice 𝓛 i32 (named 8) (α8 ∷ []) lent.8.0 lent.8.1 (block_of a.1.1.1.1.1.1.1.1.1.1.1.1.1.0) (count_of
    a.1.1.1.1.1.1.1.1.1.1.1.1.1.0) room_readings (α8 ∷ []) ((sint_Copied 𝓛 w32).shares lent.8.0 (α8 ∷ [])) ((
      (α8 ∷
          []),
      full_share,
    ) ∷ []) (Incl-refl (α8 ∷ [])) (Incl-refl (α8 ∷ []))) $ await ! tt $ split ! $ split ! $
    let G = triple_of 𝓛 g.signature (g.spec 𝓛 𝓜.mem 𝓡.returns) in
    let z : G.Ghost = (
      (
        (
          α0 ∷ [],
          (
            α1 ∷ [],
            (
              α2 ∷ [],
              (
                α3 ∷ [],
                (
                  α4 ∷ [],
                  (
                    α5 ∷ [],
                    (
                      α6 ∷ [],
                      (
                        α7 ∷ [],
                        (
                          α8 ∷ [],
                          tt,
                        ),
                      ),
                    ),
                  ),
                ),
              ),
            ),
          ),
        ),
        (
          full_share,
          (
            full_share,
            (
              full_share,
              (
                full_share,
                (
                  full_share,
                  (
                    full_share,
                    (
                      full_share,
                      (full_share, (full_share, tt)),
                    ),
                  ),
                ),
              ),
            ),
          ),
        ),
        tt,
        (
          at_run δ0,
          (
            at_rule δ1,
            (
              at_book δ2,
              (
                at_text,
                (
                  at_out δ4,
                  (
                    at_first
                        δ5,
                    (at_second δ6, (at_types δ7, (at_readings, (steps, tt)))),
                  ),
                ),
              ),
            ),
          ),
        ),
        (
          mut_vals (at_run δ0),
          (
            mut_vals (at_rule
                δ1),
            (
              mut_vals (at_book δ2),
              (
                slice_val (block_of a.1.1.1.0, count_of a.1.1.1.0) (length lent.3.1) ∷ [],
                (
                  slice_val (block_of a.1.1.1.1.1.0, count_of a.1.1.1.1.1.0) (length lent.4) ∷ [],
                  (
                    slice_val (
                      block_of
                          a.1.1.1.1.1.1.1.0,
                      count_of a.1.1.1.1.1.1.1.0,
                    ) (length lent.5) ∷ [],
                    (
                      slice_val (
                        block_of a.1.1.1.1.1.1.1.1.1.0,
                        count_of a.1.1.1.1.1.1.1.1.1.0,
                      ) (length lent.6) ∷ [],
                      (
                        slice_val (
                          block_of a.1.1.1.1.1.1.1.1.1.1.1.0,
                          count_of
                              a.1.1.1.1.1.1.1.1.1.1.1.0,
                        ) (length lent.7) ∷ [],
                        (
                          slice_val (
                            block_of a.1.1.1.1.1.1.1.1.1.1.1.1.1.0,
                            count_of
                                a.1.1.1.1.1.1.1.1.1.1.1.1.1.0,
                          ) (length lent.8.1) ∷ [],
                          (uint_vals w32 steps, tt),
                        ),
                      ),
                    ),
                  ),
                ),
              ),
            ),
          ),
        ),
      ),
      tt,
    ) in
    nothing ! $ owned ! u32 _ (uint_Makes 𝓛 w32) steps _ (refl, are.1.1.1.1.1.1.1.1.1.1.1.1.1.1.1.0.1) $ fjoin ! $
    move ! (1 ∷ 0 ∷ []) $ fjoin ! $ move ! (3 ∷ 0 ∷ []) $ fjoin ! $ move ! (5 ∷ 0 ∷ []) $ fjoin ! $
    move ! (7 ∷ 0 ∷ []) $ fjoin ! $ move ! (9 ∷ 0 ∷ []) $ fjoin ! $ move ! (11 ∷ 0 ∷ []) $ fjoin ! $
    move ! (13 ∷ 0 ∷ []) $ fjoin ! $ move ! (15 ∷ 0 ∷ []) $ fjoin ! $ move ! (17 ∷ 0 ∷ []) $ fjoin ! $ nothing ! $
    move ! (3 ∷ 0 ∷ []) $ join ! $ move ! (4 ∷ 0 ∷ []) $ join ! $ move ! (5 ∷ 0 ∷ []) $ join ! $
    move ! (6 ∷ 0 ∷ []) $ join ! $ move ! (7 ∷ 0 ∷ []) $ join ! $ move ! (8 ∷ 0 ∷ []) $ join ! $
    move ! (9 ∷ 0 ∷ []) $ join ! $ move ! (10 ∷ 0 ∷ []) $ join ! $ move ! (11 ∷ 0 ∷ []) $ join ! $ join ! $
    nothing ! $ move ! (1 ∷ 0 ∷ []) $ join ! $ use1 𝓛 (raw (G.pre z)) (id⊢ 𝓤 _) $
    calls_at ! fm G (met 𝓤 𝓛 𝓜 𝓡 (code.calls-firmware_c::trying::try_in 𝓡.env wired)) z
    (and_then ! (get ! refl) (and_then ! (get ! refl) (and_then ! (get ! refl) (and_then ! (get ! refl) (and_then !
    (get ! refl) (and_then ! (get ! refl) (and_then ! (get ! refl) (and_then ! (get ! refl) (and_then ! (get ! refl)
    (and_then ! (get ! refl) (no_more !))))))))))) (λ v.
    use1 𝓛 (later (some (λ (r : Trial). ((‵ (flft (α0 ∷ []) full_share) ⊛ (‵ (flft (α1 ∷ []) full_share) ⊛ (‵ (flft
    (α2 ∷ []) full_share) ⊛ (‵ (flft (α3 ∷ []) full_share) ⊛ (‵ (flft (α4 ∷ []) full_share) ⊛ (‵ (flft (α5 ∷ [])
    full_share) ⊛ (‵ (flft (α6 ∷ []) full_share) ⊛ (‵ (flft (α7 ∷ []) full_share) ⊛ (‵ (flft (α8 ∷ []) full_share) ⊛
    ‵ ftrue))))))))) ⊛ ‵ (trial.the_row.own_val r (v ∷ []))) ⊛
    some (λ (ws : (run_row.Denot × (rule_row.Denot × (book_row.Denot × (Unit {0} × (List ℕ × (List ℕ × (List ℕ ×
    (List ℕ × (Unit {0} × (Unit {0} × Unit {0}))))))))))). ‵ (lasts g.ended z.0.0 z.0.3 ws) ⊛ raw (fact 𝓤 ((ws.1.1.0
    ≡ lent.2) × tries lent.3.1 (names lent.2) (buffers lent.4 lent.5 lent.6 lent.7) (buffers ws.1.1.1.1.0
    ws.1.1.1.1.1.0 ws.1.1.1.1.1.1.0 ws.1.1.1.1.1.1.1.0) lent.0 lent.1 lent.8.1 steps ws.0 ws.1.0 r)))))) (id⊢ 𝓤 _) $
    await ! tt $ pick ! (λ r. split ! $ split ! $ split ! $ lft_end ! tt $ move ! (1 ∷ []) $ split ! $ lft_end ! tt $
    move ! (1 ∷ []) $ split ! $ lft_end ! tt $ move ! (1 ∷ []) $ split ! $ lft_end ! tt $ move ! (1 ∷ []) $
    split ! $ lft_end ! tt $ move ! (1 ∷ []) $ split ! $ lft_end ! tt $ move ! (1 ∷ []) $ split ! $ lft_end ! tt $
    move ! (1 ∷ []) $ split ! $ lft_end ! tt $ move ! (1 ∷ []) $ split ! $ lft_end ! tt $ move ! (10 ∷ []) $
    peeks ! trial.the_row (Is trial.the_row) (shows 𝓛 trial.the_row) r (v ∷ []) (λ is. lands_as ! refl refl
    ((the_row_laws.lawful 𝓛).typed r _ is).0 $ move ! (11 ∷ []) $
    pick ! (λ ws. split ! $ move ! (1 ∷ []) $ heard ! _ (λ done_so.
    fsplit ! $ fsplit ! $ move ! (2 ∷ []) $ fsplit ! $ fsplit ! $ move ! (2 ∷ []) $ fsplit ! $ fsplit ! $
    move ! (2 ∷ []) $ fsplit ! $ move ! (1 ∷ []) $ fsplit ! $ fsplit ! $ fsplit ! $ move ! (3 ∷ []) $ fsplit ! $
    fsplit ! $ fsplit ! $ move ! (3 ∷ []) $ fsplit ! $ fsplit ! $ fsplit ! $ move ! (3 ∷ []) $ fsplit ! $ fsplit ! $
    fsplit ! $ move ! (3 ∷ []) $ fsplit ! $ move ! (1 ∷ []) $ fsplit ! $ move ! (32 ∷ 41 ∷ 20 ∷ []) $
    use3 𝓛 (later (‵ (part_at run_row full_share ws.0 (block_of a.0) (count_of a.0)))) (ref_back 𝓛 run_row (α0 ∷ [])
    δ0 ws.0 (block_of a.0) (count_of a.0)) $ await ! tt $ move ! (31 ∷ 39 ∷ 19 ∷ []) $
    use3 𝓛 (later (‵ (part_at rule_row full_share ws.1.0 (block_of a.1.0) (count_of a.1.0)))) (ref_back 𝓛 rule_row
    (α1 ∷ []) δ1 ws.1.0 (block_of a.1.0) (count_of a.1.0)) $ await ! tt $ move ! (30 ∷ 37 ∷ 18 ∷ []) $
    use3 𝓛 (later (‵ (part_at book_row full_share ws.1.1.0 (block_of a.1.1.0) (count_of a.1.1.0)))) (ref_back 𝓛
    book_row (α2 ∷ []) δ2 ws.1.1.0 (block_of a.1.1.0) (count_of a.1.1.0)) $ await ! tt $ move ! (29 ∷ 35 ∷ []) $
    lent_back ! tt $ move ! (29 ∷ 34 ∷ 16 ∷ []) $
    use3 𝓛 (later (‵ ((Arr (mem u8) (length lent.4)).own_at ws.1.1.1.1.0 (block_of a.1.1.1.1.1.0) (count_of
    a.1.1.1.1.1.0)))) (slice_back 𝓛 u8 (α4 ∷ []) δ4 ws.1.1.1.1.0 (length lent.4) (block_of a.1.1.1.1.1.0) (count_of
    a.1.1.1.1.1.0)) $ await ! tt $ move ! (28 ∷ 32 ∷ 14 ∷ []) $
    use3 𝓛 (later (‵ ((Arr (mem u16) (length lent.5)).own_at ws.1.1.1.1.1.0 (block_of a.1.1.1.1.1.1.1.0) (count_of
    a.1.1.1.1.1.1.1.0)))) (slice_back 𝓛 u16 (α5 ∷ []) δ5 ws.1.1.1.1.1.0 (length lent.5) (block_of a.1.1.1.1.1.1.1.0)
    (count_of a.1.1.1.1.1.1.1.0)) $ await ! tt $ move ! (27 ∷ 30 ∷ 12 ∷ []) $
    use3 𝓛 (later (‵ ((Arr (mem u16) (length lent.6)).own_at ws.1.1.1.1.1.1.0 (block_of a.1.1.1.1.1.1.1.1.1.0)
    (count_of a.1.1.1.1.1.1.1.1.1.0)))) (slice_back 𝓛 u16 (α6 ∷ []) δ6 ws.1.1.1.1.1.1.0 (length lent.6) (block_of
    a.1.1.1.1.1.1.1.1.1.0) (count_of a.1.1.1.1.1.1.1.1.1.0)) $ await ! tt $ move ! (26 ∷ 28 ∷ 10 ∷ []) $
    use3 𝓛 (later (‵ ((Arr (mem u16) (length lent.7)).own_at ws.1.1.1.1.1.1.1.0 (block_of a.1.1.1.1.1.1.1.1.1.1.1.0)
    (count_of a.1.1.1.1.1.1.1.1.1.1.1.0)))) (slice_back 𝓛 u16 (α7 ∷ []) δ7 ws.1.1.1.1.1.1.1.0 (length lent.7)
    (block_of a.1.1.1.1.1.1.1.1.1.1.1.0) (count_of a.1.1.1.1.1.1.1.1.1.1.1.0)) $ await ! tt $ move ! (24 ∷ 26 ∷ []) $
    lent_back ! tt $ returns ! (look_at ! 0 refl) $ free_all ! refl $
    keep ! (24 ∷ 8 ∷ 7 ∷ 6 ∷ 5 ∷ 4 ∷ 3 ∷ 2 ∷ 1 ∷ 0 ∷ []) $
    suffices ! _ (ends_at 𝓛 f.ended stayed c (y (block_ptr (block_of a.0) (count_of a.0)) (block_ptr (block_of
    a.1.0) (count_of a.1.0)) (block_ptr (block_of a.1.1.0) (count_of a.1.1.0)) (block_ptr (block_of a.1.1.1.0)
    (count_of a.1.1.1.0)) (length lent.3.1) (block_ptr (block_of a.1.1.1.1.1.0) (count_of a.1.1.1.1.1.0)) (length
    lent.4) (block_ptr (block_of a.1.1.1.1.1.1.1.0) (count_of a.1.1.1.1.1.1.1.0)) (length lent.5) (block_ptr
    (block_of a.1.1.1.1.1.1.1.1.1.0) (count_of a.1.1.1.1.1.1.1.1.1.0)) (length lent.6) (block_ptr (block_of
    a.1.1.1.1.1.1.1.1.1.1.1.0) (count_of a.1.1.1.1.1.1.1.1.1.1.1.0)) (length lent.7) (block_ptr (block_of
    a.1.1.1.1.1.1.1.1.1.1.1.1.1.0) (count_of a.1.1.1.1.1.1.1.1.1.1.1.1.1.0)) (length lent.8.1)) v r (
      tt,
      (
        tt,
        (
          tt,
          (tt, (tt, (tt, (tt, (tt, (tt, (tt, (tt, (tt, (tt, (tt, (tt, (tt, tt))))))))))))),
        ),
      ),
    ) (
      tt,
      (
        tt,
        (
          tt,
          (
            tt,
            (
              tt,
              (tt, (tt, (tt, (tt, (tt, (tt, (tt, (tt, (tt, (tt, (tt, tt))))))))))),
            ),
          ),
        ),
      ),
    )) $
    nothing ! $ nothing ! $ join ! $ nothing ! $ join ! $ nothing ! $ join ! $ nothing ! $ join ! $ nothing ! $
    join ! $ nothing ! $ join ! $ nothing ! $ join ! $ nothing ! $ join ! $ nothing ! $ join ! $ nothing ! $
    join ! $ nothing ! $ join ! $ nothing ! $ join ! $ nothing ! $ join ! $ nothing ! $ join ! $ nothing ! $
    join ! $ nothing ! $ join ! $ nothing ! $ group ! 3 $ frame ! $
    show ! (λ (left : RunAt × RuleAt × BookAt × List ℕ × List ℕ × List ℕ × List ℕ). sep 𝓤 (sep 𝓤 (sem 𝓛 (place
    run_row left.0 (block_ptr (block_of a.0) (count_of a.0)))) (sep 𝓤 (sem 𝓛 (place rule_row left.1 (block_ptr
    (block_of a.1.0) (count_of a.1.0)))) (sep 𝓤 (sem 𝓛 (place book_row left.2 (block_ptr (block_of a.1.1.0)
    (count_of a.1.1.0)))) (sep 𝓤 (sem 𝓛 (shown u8 lent.3.0 (length lent.3.1) lent.3.1 (block_ptr (block_of
    a.1.1.1.0) (count_of a.1.1.1.0)))) (sep 𝓤 (sem 𝓛 (slots u8 (length lent.4) left.3 (block_ptr (block_of
    a.1.1.1.1.1.0) (count_of a.1.1.1.1.1.0)))) (sep 𝓤 (sem 𝓛 (slots u16 (length lent.5) left.4 (block_ptr (block_of
    a.1.1.1.1.1.1.1.0) (count_of a.1.1.1.1.1.1.1.0)))) (sep 𝓤 (sem 𝓛 (slots u16 (length lent.6) left.5 (block_ptr
    (block_of a.1.1.1.1.1.1.1.1.1.0) (count_of a.1.1.1.1.1.1.1.1.1.0)))) (sep 𝓤 (sem 𝓛 (slots u16 (length lent.7)
    left.6 (block_ptr (block_of a.1.1.1.1.1.1.1.1.1.1.1.0) (count_of a.1.1.1.1.1.1.1.1.1.1.1.0)))) (sem 𝓛 (shown i32
    lent.8.0 (length lent.8.1) lent.8.1 (block_ptr (block_of a.1.1.1.1.1.1.1.1.1.1.1.1.1.0) (count_of
    a.1.1.1.1.1.1.1.1.1.1.1.1.1.0)))))))))))) (fact 𝓤 (unless (any_null ((block_ptr (block_of a.0) (count_of a.0)) ∷
    (block_ptr (block_of a.1.0) (count_of a.1.0)) ∷ (block_ptr (block_of a.1.1.0) (count_of a.1.1.0)) ∷ (block_ptr
    (block_of a.1.1.1.0) (count_of a.1.1.1.0)) ∷ (block_ptr (block_of a.1.1.1.1.1.0) (count_of a.1.1.1.1.1.0)) ∷
    (block_ptr (block_of a.1.1.1.1.1.1.1.0) (count_of a.1.1.1.1.1.1.1.0)) ∷ (block_ptr (block_of
    a.1.1.1.1.1.1.1.1.1.0) (count_of a.1.1.1.1.1.1.1.1.1.0)) ∷ (block_ptr (block_of a.1.1.1.1.1.1.1.1.1.1.1.0)
    (count_of a.1.1.1.1.1.1.1.1.1.1.1.0)) ∷ (block_ptr (block_of a.1.1.1.1.1.1.1.1.1.1.1.1.1.0) (count_of
    a.1.1.1.1.1.1.1.1.1.1.1.1.1.0)) ∷ [])) ((left ≡ (lent.0, lent.1, lent.2, lent.4, lent.5, lent.6, lent.7)) × (r ≡
    null_trial)) ((left.2 ≡ lent.2) × tries lent.3.1 (names lent.2) (buffers lent.4 lent.5 lent.6 lent.7) (buffers
    left.3 left.4 left.5 left.6) lent.0 lent.1 lent.8.1 steps left.0 left.1 r))))
    (ws.0, ws.1.0, ws.1.1.0, ws.1.1.1.1.0, ws.1.1.1.1.1.0, ws.1.1.1.1.1.1.0, ws.1.1.1.1.1.1.1.0) $
    says ! (λ t. absurd t, λ _. done_so) $ done !)))))))))))))))))))))))))))))))))
