use Rattle.std.proofs.Common.{◌≡◌, ◌<◌, List, ℕ, ◌∷◌, Some, false, true, length, length-append, ap, arith, refl, sym}
use Rattle.std.proofs.Common.{subst, ◌∙◌}
use Rattle.exact_readers.specs.Cuts.{cut}
use Rattle.exact_readers.specs.Lines.{is_line_feed}
use Rattle.cut_input.specs.PieceLaws.{cut-parts}
use Rattle.typist_line.specs.Typings.{heard, Stops, is_over}
use Rattle.typist_line.proofs.Results.{on_err}
use Rattle.typist_line.proofs.Standing.{HasTyped, there, typed-none, typed-line, typed-open, typed-long, typed-over}
use Rattle.typist_line.proofs.Standing.{stops-standing, stops-line}
use Rattle.typist_line.proofs.running.type_bytes.Goals as goal

-- what stands behind a line is shorter
shorter : (bytes end behind : List ℕ) → cut is_line_feed bytes ≡ Some (end, behind) → length behind < length bytes
shorter bytes end behind cut_is =
    let (lf, last, none, is) = cut-parts is_line_feed bytes end behind cut_is in
    omega (arith, ap length is, length-append end (lf ∷ behind))

pub loop-rest-init : goal.loop-rest-init
loop-rest-init g c = (
  typed-none c.args.rules.now c.args.bytes.now c.args.typist c.args.begun.now
      (heard g.C.Caller.said c.args.caller.now c.args.out.now.items),
  refl,
)

pub loop-rest-smaller : goal.loop-rest-smaller
loop-rest-smaller g c = shorter c.loop-rest.rest.now c.in-Here.end.now c.in-Here.behind.now c.in-Here.ensures.0

pub loop-rest-preserved : goal.loop-rest-preserved
loop-rest-preserved g c =
    let said = g.C.Caller.said in
    let before = heard said c.args.caller.now c.args.out.now.items in
    let middle = heard said c.loop-rest.caller c.loop-rest.out.items in
    let after = heard said c.type_ended.new.caller c.type_ended.new.out.items in
    let ends = rw c.as_slice.ensures at c.in-Here.ensures in (
      subst (λ begun. HasTyped c.args.rules.now c.args.bytes.now c.in-Here.behind.now
          (there c.args.typist c.args.begun.now) c.in_ok-typist-in-Here.typist begun before after)
          (sym {A = List ℕ} c.in_ok-typist-in-Here.ensures.clear)
          (typed-line c.args.rules.now c.args.bytes.now c.loop-rest.rest.now c.in-Here.end.now c.in-Here.behind.now
          (there c.args.typist c.args.begun.now) c.loop-rest.typist c.in_ok-typist-in-Here.typist c.loop-rest.begun
          before middle after c.loop-rest.invariant.0 ends.0 ends.1 c.in_ok-typist-in-Here.ensures.ok),
      c.in_ok-typist-in-Here.ensures.number ∙ c.loop-rest.invariant.1,
    )

pub returns-in_err-typist-in-Here-clause-stops : goal.returns-in_err-typist-in-Here-clause-stops
returns-in_err-typist-in-Here-clause-stops g c =
    let said = g.C.Caller.said in
    let before = heard said c.args.caller.now c.args.out.now.items in
    let middle = heard said c.loop-rest.caller c.loop-rest.out.items in
    let after = heard said c.type_ended.new.caller c.type_ended.new.out.items in
    let ends = rw c.as_slice.ensures at c.in-Here.ensures in
    on_err c.from_residual.result
    (stops-line c.args.rules.now c.args.bytes.now c.loop-rest.rest.now c.in-Here.end.now c.in-Here.behind.now
    (there c.args.typist c.args.begun.now) c.loop-rest.typist c.loop-rest.begun before middle after
    c.loop-rest.invariant.0 ends.0 ends.1 c.in_err-typist-in-Here.ensures.err)

pub returns-in_err-push_bytes-in-Open-clause-stops : goal.returns-in_err-push_bytes-in-Open-clause-stops
returns-in_err-push_bytes-in-Open-clause-stops g c =
    let said = g.C.Caller.said in
    let before = heard said c.args.caller.now c.args.out.now.items in
    let middle = heard said c.loop-rest.caller c.loop-rest.out.items in
    on_err c.from_residual-in_err-push_bytes-in-Open.result
    (stops-standing c.args.rules.now c.args.bytes.now c.loop-rest.rest.now (there c.args.typist c.args.begun.now)
    c.loop-rest.typist c.loop-rest.begun before middle c.loop-rest.invariant.0)

pub returns-in_err-send_refusal-in-TooLong-clause-stops : goal.returns-in_err-send_refusal-in-TooLong-clause-stops
returns-in_err-send_refusal-in-TooLong-clause-stops g c =
    let said = g.C.Caller.said in
    let before = heard said c.args.caller.now c.args.out.now.items in
    let middle = heard said c.loop-rest.caller c.loop-rest.out.items in
    let typing = there c.args.typist c.args.begun.now in
    on_err c.from_residual-in_err-send_refusal-in-TooLong.result
    (subst (λ items. Stops c.args.rules.now c.args.bytes.now typing before (heard said c.loop-rest.caller items))
    (sym {A = List ℕ} c.in_err-send_refusal-in-TooLong.ensures.err)
    (stops-standing c.args.rules.now c.args.bytes.now c.loop-rest.rest.now typing c.loop-rest.typist c.loop-rest.begun
    before middle c.loop-rest.invariant.0))

pub returns-in-Open-clause-types : goal.returns-in-Open-clause-types
returns-in-Open-clause-types g c =
    let said = g.C.Caller.said in
    let before = heard said c.args.caller.now c.args.out.now.items in
    let middle = heard said c.loop-rest.caller c.loop-rest.out.items in
    let more : is_over c.loop-rest.typist ≡ false = cc in
    let goes = rw c.as_slice.ensures at c.in-Open.ensures in
    typed-open c.args.rules.now c.args.bytes.now c.loop-rest.rest.now (there c.args.typist c.args.begun.now)
    c.loop-rest.typist c.loop-rest.begun c.push_bytes.new.self before middle c.loop-rest.invariant.0 more goes.0 goes.1
    c.in_ok-push_bytes-in-Open.ensures.ok

pub returns-in-TooLong-clause-types : goal.returns-in-TooLong-clause-types
returns-in-TooLong-clause-types g c =
    let said = g.C.Caller.said in
    let before = heard said c.args.caller.now c.args.out.now.items in
    let middle = heard said c.loop-rest.caller c.loop-rest.out.items in
    let after = heard said c.loop-rest.caller c.send_refusal.new.out.items in
    let more : is_over c.loop-rest.typist ≡ false = cc in
    typed-long c.args.rules.now c.args.bytes.now c.loop-rest.rest.now (there c.args.typist c.args.begun.now)
    c.loop-rest.typist c.loop-rest.begun c.loop-rest.begun before middle after c.loop-rest.invariant.0 more
    (rw c.as_slice.ensures at c.in-TooLong.ensures) refl c.in_ok-send_refusal-in-TooLong.ensures.ok

pub returns-clause-types : goal.returns-clause-types
returns-clause-types g c =
    let said = g.C.Caller.said in
    let before = heard said c.args.caller.now c.args.out.now.items in
    let middle = heard said c.loop-rest.caller c.loop-rest.out.items in
    let over : is_over c.loop-rest.typist ≡ true = cc in
    typed-over c.args.rules.now c.args.bytes.now c.loop-rest.rest.now (there c.args.typist c.args.begun.now)
    c.loop-rest.typist c.loop-rest.begun before middle c.loop-rest.invariant.0 over
