use Rattle.std.proofs.Common.{◌++◌, length, Ok, sym, refl, subst}
use borrow.Author.Tests.{true-ltb, false-ltb}
use Rattle.std.proofs.lemmas.Result.{err_from_is_err_and}
use Rattle.grammar.specs.Classes.{RefusedExpr}
use Rattle.grammar.specs.Verdict as verdict
use Rattle.grammar.proofs.Verdicts.{first_unread, refused_verdict, rest_verdict}
use Rattle.book.specs.Books.{names}
use Rattle.text.specs.declared.fault.CompileFault.TheVariants.{Lex}
use Rattle.text.specs.Faults.{number, place}
use Rattle.text.specs.Parsing.{at, nowhere, ReadsExpr}
use Rattle.text.specs.Scopes.{open_names}
use Rattle.text.proofs.Records.{none_open, compiled_ok, compiled_err, compiled_buffer, read_told}
use Rattle.text.proofs.compile.compile.Goals as goal

pub returns-then-is_too_long-clause-err : goal.returns-then-is_too_long-clause-err
returns-then-is_too_long-clause-err c = verdict.too_long
    (true-ltb 4096 (length c.args.text.now) c.if-is_too_long.ensures)

pub returns-in_err-parser-clause-err : goal.returns-in_err-parser-clause-err
returns-in_err-parser-clause-err c =
    let s = c.args.text.now in
    let B = names c.args.book.now in
    let out = c.args.out.now in
    let f = Lex c.in_err-parser.field-0.0 in
    let p = err_from_is_err_and c.from_residual.result c.from_residual.ensures.1 in
    rw (p.1, p.2) (first_unread B s (false-ltb 4096 (length s) c.if-is_too_long.ensures) (length out) (number f)
    (place f) c.in_err-parser.ensures)

pub returns-in_err-root-clause-err : goal.returns-in_err-root-clause-err
returns-in_err-root-clause-err c =
    let s = c.args.text.now in
    let B = names c.args.book.now in
    let out = c.args.out.now in
    let f = c.in_err-root.field-0.0 in
    let q = c.in_ok-parser.parser in
    let began = c.in_ok-parser.ensures in
    let none = none_open c.new-2.result c.new-2.ensures in
    let no = subst (λ o. RefusedExpr B (o ++ B) s (at q) (number f) (place f)) none
    (subst (λ k. RefusedExpr k.book (open_names c.new-2.result ++ k.book) k.text (at q) (number f) (place f))
    began.1 c.in_err-root.ensures.reads) in
    let p = err_from_is_err_and c.from_residual-in_err-root.result c.from_residual-in_err-root.ensures.1 in
    rw (p.1, p.2) (refused_verdict B s (false-ltb 4096 (length s) c.if-is_too_long.ensures) (length out) nowhere
    (at q) (number f) (place f) refl began.0 no)

pub returns-then-not-is_end-clause-err : goal.returns-then-not-is_end-clause-err
returns-then-not-is_end-clause-err c =
    let s = c.args.text.now in
    let B = names c.args.book.now in
    let q = c.in_ok-parser.parser in
    let r = c.expr.new.self in
    let began = c.in_ok-parser.ensures in
    let b = subst (λ o. ReadsExpr (record { text = s; book = B }) o q r (Ok c.in_ok-root.root))
    (none_open c.new-2.result c.new-2.ensures) (subst (λ k. ReadsExpr k (open_names c.new-2.result) q r
    (Ok c.in_ok-root.root)) began.1 c.in_ok-root.ensures.reads) in
    rest_verdict B s (false-ltb 4096 (length s) c.if-is_too_long.ensures) (length c.args.out.now) nowhere (at q)
    (at r) b.0 refl began.0 b.2 (sym c.if-not-is_end.ensures)

pub returns-clause-ok : goal.returns-clause-ok
returns-clause-ok c = compiled_ok c.args.text.now (names c.args.book.now) c.args.out.now c.record.new.out
    c.record.result (read_told c.args.text.now c.args.book.now c.in_ok-parser.parser c.expr.new.self c.new-2.result
    c.in_ok-root.root c.readings.result c.args.out.now c.record.new.out c.record.result
    (false-ltb 4096 (length c.args.text.now) c.if-is_too_long.ensures) c.in_ok-parser.ensures c.new-2.ensures
    c.in_ok-root.ensures.reads (sym c.if-not-is_end.ensures) c.readings.ensures.0 c.record.ensures)

pub returns-clause-err : goal.returns-clause-err
returns-clause-err c = compiled_err c.args.text.now (names c.args.book.now) c.args.out.now c.record.new.out
    c.record.result (read_told c.args.text.now c.args.book.now c.in_ok-parser.parser c.expr.new.self c.new-2.result
    c.in_ok-root.root c.readings.result c.args.out.now c.record.new.out c.record.result
    (false-ltb 4096 (length c.args.text.now) c.if-is_too_long.ensures) c.in_ok-parser.ensures c.new-2.ensures
    c.in_ok-root.ensures.reads (sym c.if-not-is_end.ensures) c.readings.ensures.0 c.record.ensures)

pub returns-clause-buffer : goal.returns-clause-buffer
returns-clause-buffer c = compiled_buffer c.args.text.now (names c.args.book.now) c.args.out.now c.record.new.out
    c.record.result (read_told c.args.text.now c.args.book.now c.in_ok-parser.parser c.expr.new.self c.new-2.result
    c.in_ok-root.root c.readings.result c.args.out.now c.record.new.out c.record.result
    (false-ltb 4096 (length c.args.text.now) c.if-is_too_long.ensures) c.in_ok-parser.ensures c.new-2.ensures
    c.in_ok-root.ensures.reads (sym c.if-not-is_end.ensures) c.readings.ensures.0 c.record.ensures)
