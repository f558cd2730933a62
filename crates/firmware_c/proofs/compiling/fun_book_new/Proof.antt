-- an empty book is written into the room that C lends
use Rattle.std.proofs.Common.{◌≡◌, [], ◌∷◌, ◌++◌, get_or, map, Option, Some, None, refl, subst}
use Rattle.std.proofs.raw_atomic.Walks.{proved}
use base.Fraction.{full_share}
use base.Logic.{sep, via, id⊢}
use base.Fml.{ftrue, froom}
use mir.Syntax.{Ty, ty_unit, Local, local}
use contract.Monad.{fact}
use contract.Running.{tables}
use prog.Wp.{WpFn}
use types.Logic.{sem}
use types.Kit.{Goal, ‵, raw, ◌⊛◌, some, later, prop, at_ret, ◌$◌, ◌∵◌, !, qed, done, move, drop, use1, use2, split}
use types.Kit.{join, pick, await, rewrite, regoal, suffices, frame, group, show}
use types.Run.{enter, init, assigns, of_opd, stop, no_more, returns, returns_within, bin, lit, first, branches}
use types.Run.{skips, exec}
use types.ByLocal.{alloc_all, pass_all, free_all, look_at, get, through, sets, lands_as, env}
use denote.Exit.{yes}
use denote.Laws.{Is, shows}
use denote.Memory.{part_at, lone}
use denote.RawPtr.{Ptr, RawPtr, block_ptr, block_of, count_of, rawptr_vals, rawptr_Tells, rawptr_Lawful, Testable}
use denote.RawPtr.{tests_null}
use borrow.Table.OneValue.{part_in_at}
use denote.Signature.{plain}
use denote.Steps.{nothing, heard, peeks}
use denote.Triple.Call.{calls_at}
use denote.Triple.Clauses.{lasts}
use denote.Triple.Entry.{on_entry}
use denote.Triple.Spec.{triple_of}
use denote.Triple.Table.{framed}
use denote.Triple.Walked.{Stays, walk_of, says, stay_dropped, Goes-dropped, ends_at}
use Rattle.firmware.specs.declared.reply.Reply.{Reply}
use Rattle.firmware.specs.contracts.reply.Reply as reply
use Rattle.firmware.proofs.reply.Reply.TheLaws.{the_row_laws}
use Rattle.book.specs.Books.{names}
use Rattle.firmware_c.specs.Lent.{BookAt, book_row, vacant, made, IsMade, IsNotMade, any_null, unless, done_reply}
use Rattle.firmware_c.specs.Lent.{null_reply}
use Rattle.firmware_c.specs.contracts.compiling.fun_book_new as f
use Rattle.firmware_c.specs.contracts.lent.refused_null as n
use Rattle.firmware_c.specs.contracts.lent.done as d
use Rattle.firmware_c.proofs.lent.done.Met as done_met
use Rattle.book.specs.contracts.book.Book.new as g
use Rattle.firmware_c.proofs.compiling.fun_book_new.Statement.{statement}
use Rattle.firmware_c.proofs.compiling.fun_book_new.Code as code
use Rattle.firmware_c.proofs.lent.refused_null.Met as null_met
use Rattle.book.proofs.book.Book.new.Met.{met}
use Rattle.book.proofs.book.Book.TheLaws as book-laws
use Rattle.firmware_c.proofs.Steps.{by_test, both_ways, in_block_where}

-- the value's type as the code spells it, with its lifetimes erased
abbrev type_of : Local → Ty
type_of (local t k) = t

abbrev τ : Ty
τ = get_or (map type_of code.Mir.locals) 4 ty_unit

abbrev stayed : Stays f.ended.signature.params f.ended.kept
stayed = (stay_dropped _ yes, tt)

pub fun_book_new_spec : {M : Type 1} → statement M
fun_book_new_spec 𝓤 𝓛 𝓜 𝓡 wired =
    let c = f.clauses 𝓛 𝓜.mem 𝓡.returns in let W = walk_of 𝓛 f.ended stayed c in let 𝓣 = tables 𝓤 𝓛.H 𝓜 𝓡 𝓡.env in
    let fm = framed 𝓤 𝓛.H 𝓜 (tables 𝓤 𝓛.H 𝓜 𝓡 𝓡.env) in
    let of_ptr = Goes-dropped 𝓛 0 (plain (λ _. RawPtr)) yes (λ κs x w. refl) in
    proved 𝓛 f.ended stayed c 𝓜 𝓡 (of_ptr, tt)
    f.Key.name code.function (code.unfolded 𝓤 𝓛.H 𝓜 𝓡 wired)
    (λ κs. (rawptr_vals, tt)) (λ κs. (rawptr_Tells, tt)) (λ κs qs bounds a lent are.
    let y : Ptr → W.Ghost = λ p. ((κs, qs, bounds, (p, tt), (rawptr_vals p, tt)), lent) in
    let at : Ptr → Goal 𝓤 𝓛.H = λ p. prop (WpFn 𝓤 𝓛.H 𝓣.C 𝓣.Λ code.function (rawptr_vals p ++ []) (W.post (y p))) in
    qed 𝓛 (raw (on_entry 𝓛 f.signature κs qs a (y a.0).0.4) ∷ (raw (fact 𝓤 (Testable a.0)) ⊛ ‵ (vacant book_row
    a.0)) ∷ []) ∵ drop ! $ split ! $ heard ! (Testable a.0) (λ may.
    by_test ! (any_null (a.0 ∷ []))
    (λ null. enter ! 𝓣.C 𝓣.Λ code.function _ _ $ alloc_all ! (λ l. pass_all ! refl
    (((rawptr_Lawful 𝓛).typed a.0 _ refl).0, tt) $
    sets ! (bin ! (get ! refl) (lit ! tt) (tests_null a.0 may)) refl (tt, tt) $
    first ! $ branches ! (get ! refl) (λ t.
    let N = triple_of 𝓛 n.signature (n.spec 𝓛 𝓜.mem 𝓡.returns) in
    let zN : N.Ghost = ((tt, tt, tt, tt, tt), tt) in
    nothing ! $ nothing ! $ join ! $ nothing ! $ move ! (1 ∷ 0 ∷ []) $ join ! $ use1 𝓛 (raw (N.pre zN)) (id⊢ 𝓤 _) $
    calls_at ! fm N (null_met.met 𝓤 𝓛 𝓜 𝓡 (code.calls-firmware_c::lent::refused_null 𝓡.env wired)) zN (no_more !) (λ
    v.
    use1 𝓛 (later (some (λ (r : Reply). (‵ ftrue ⊛ ‵ (reply.the_row.own_val r (v ∷ []))) ⊛
    some (λ ws. ‵ (lasts n.ended zN.0.0 zN.0.3 ws) ⊛ raw (fact 𝓤 (r ≡ null_reply)))))) (id⊢ 𝓤 _) $
    await ! tt $ pick ! (λ r. split ! $ split ! $ drop ! $
    peeks ! reply.the_row (Is reply.the_row) (shows 𝓛 reply.the_row) r (v ∷ []) (λ is. lands_as ! refl refl
    ((the_row_laws.lawful 𝓛).typed r _ is).0 $
    move ! (1 ∷ []) $ pick ! (λ ws. split ! $ drop ! $ heard ! _ (λ replied_so.
    returns_within ! (W.post (y a.0)) refl (look_at ! 0 refl) $ free_all ! refl $
    suffices ! _ (ends_at 𝓛 f.ended stayed c (y a.0) v r (tt, tt) (tt, tt)) $
    nothing ! $ nothing ! $ join ! $ nothing ! $ group ! 3 $ frame ! $
    show ! (λ (left : Option BookAt). sep 𝓤 (sem 𝓛 (made book_row left a.0)) (fact 𝓤 (unless (any_null (a.0 ∷ []))
    (IsNotMade left × (r ≡ null_reply)) (IsMade left (λ new. names new ≡ []) × (r ≡ done_reply))))) None $
    says ! (λ _. (tt, replied_so), λ t. absurd (both_ways _ null t)) $ done !))))))
    (λ t. absurd (both_ways _ null t))))
    (λ leads.
    let is_place = in_block_where a.0 leads in
    rewrite ! 0 (λ (p : Ptr). ‵ (vacant book_row p)) is_place refl $ regoal ! (λ (p : Ptr). at p) is_place refl $
    enter ! 𝓣.C 𝓣.Λ code.function _ _ $ alloc_all ! (λ l. pass_all ! refl
    ((tt, tt), tt) $
    sets ! (bin ! (get ! refl) (lit ! tt) (tests_null (block_ptr (block_of a.0) (count_of a.0)) (subst Testable
    is_place may))) refl (tt, tt) $ first ! $ branches ! (get ! refl) (λ t. absurd t) (λ t. skips ! $
    exec ! 𝓣.C 𝓣.Λ (env code.Mir.locals l) code.Mir.t-3 (at_ret _ (W.post (y (block_ptr (block_of a.0) (count_of
    a.0))))) $ sets ! (of_opd ! (get ! refl)) refl (tt, tt) $
    let G = triple_of 𝓛 g.signature (g.spec 𝓛 𝓜.mem 𝓡.returns) in
    let z : G.Ghost = ((tt, tt, tt, tt, tt), tt) in
    nothing ! $ nothing ! $ join ! $ nothing ! $ move ! (1 ∷ 0 ∷ []) $ join ! $ use1 𝓛 (raw (G.pre z)) (id⊢ 𝓤 _) $
    calls_at ! fm G (met 𝓤 𝓛 𝓜 𝓡 (code.calls-book::book::Book::new 𝓡.env wired)) z (no_more !) (λ v.
    use1 𝓛 (later (some (λ (new : BookAt). (‵ ftrue ⊛ ‵ (book_row.own_val new (v ∷ []))) ⊛
    some (λ ws. ‵ (lasts g.ended z.0.0 z.0.3 ws) ⊛ raw (fact 𝓤 (names new ≡ [])))))) (id⊢ 𝓤 _) $
    await ! tt $ pick ! (λ new. split ! $ split ! $ drop ! $
    peeks ! book_row (Is book_row) (shows 𝓛 book_row) new (v ∷ []) (λ is. let good = ((book-laws.the_row_laws.lawful
    𝓛).typed new _ is).0 in
    lands_as ! refl refl good $ move ! (1 ∷ []) $ pick ! (λ ws. split ! $ drop ! $
    heard ! _ (λ fresh. move ! (1 ∷ []) $
    -- [the room; the new value]
    use1 𝓛 (‵ (froom τ (block_of a.0) (count_of a.0))) (via 𝓤 _ (𝓛.laws.room-raw (lone book_row.mir) (block_of a.0)
    (count_of a.0)) (𝓛.laws.raw-room τ (block_of a.0) (count_of a.0))) $
    assigns ! (of_opd ! (get ! refl)) (through ! refl (stop !)) (init ! 0 refl good) $
    use2 𝓛 (‵ (part_at book_row full_share new (block_of a.0) (count_of a.0))) (part_in_at 𝓛 book_row refl
    full_share new (block_of a.0) (count_of a.0) τ refl v) $
    let D = triple_of 𝓛 d.signature (d.spec 𝓛 𝓜.mem 𝓡.returns) in
    let zD : D.Ghost = ((tt, tt, tt, tt, tt), tt) in
    nothing ! $ nothing ! $ join ! $ nothing ! $ move ! (1 ∷ 0 ∷ []) $ join ! $ use1 𝓛 (raw (D.pre zD)) (id⊢ 𝓤 _) $
    calls_at ! fm D (done_met.met 𝓤 𝓛 𝓜 𝓡 (code.calls-firmware_c::lent::done 𝓡.env wired)) zD (no_more !) (λ v.
    use1 𝓛 (later (some (λ (r : Reply). (‵ ftrue ⊛ ‵ (reply.the_row.own_val r (v ∷ []))) ⊛
    some (λ ws. ‵ (lasts d.ended zD.0.0 zD.0.3 ws) ⊛ raw (fact 𝓤 (r ≡ done_reply)))))) (id⊢ 𝓤 _) $
    await ! tt $ pick ! (λ r. split ! $ split ! $ drop ! $
    peeks ! reply.the_row (Is reply.the_row) (shows 𝓛 reply.the_row) r (v ∷ []) (λ is. lands_as ! refl refl
    ((the_row_laws.lawful 𝓛).typed r _ is).0 $
    move ! (1 ∷ []) $ pick ! (λ ws. split ! $ drop ! $ heard ! _ (λ replied_so.
    returns ! (look_at ! 0 refl) $ free_all ! refl $
    suffices ! _ (ends_at 𝓛 f.ended stayed c (y (block_ptr (block_of a.0) (count_of a.0))) v r (tt, tt) (tt, tt)) $
    nothing ! $ nothing ! $ join ! $ nothing ! $ group ! 3 $ frame ! $
    show ! (λ (left : Option BookAt). sep 𝓤 (sem 𝓛 (made book_row left (block_ptr (block_of a.0) (count_of a.0))))
    (fact 𝓤 (unless (any_null (block_ptr (block_of a.0) (count_of a.0) ∷ [])) (IsNotMade left × (r ≡ null_reply))
    (IsMade left (λ new. names new ≡ []) × (r ≡ done_reply))))) (Some new) $
    says ! (λ t. absurd t, λ _. (fresh, replied_so)) $ done !)))))))))))))))
