use Rattle.std.proofs.Common.{◌∙◌, ◌++◌, [], ◌∷◌, ap, append_assoc, arith, length, map, subst, sym, ◌≤◌}
use Rattle.std.proofs.lemmas.List.{length-append}
use Rattle.script_typing.specs.MapLaws.{Ascend}
use Rattle.script_typing.specs.Workers.{AreRested}
use Rattle.script_typing.proofs.Hiring.{left-next, rested-length, rested-more}
use Rattle.script_typing.proofs.office.rest_all.Goals as goal

-- there is room for one slip more
pub rest-typed-requires : goal.rest-typed-requires
rest-typed-requires g c =
    let kept = c.loop-worker.invariant in
    let steps = c.in-Some.ensures.steps in
    record {
      room = omega (
        arith,
        kept.room,
        rested-length g.W.Pass.Caller g.W.Slip.Kept
            c.loop-worker.yielded c.loop-worker.slips.items kept.rested,
        ap length kept.parts,
        ap length steps.0,
        length-append c.loop-worker.yielded c.loop-worker.worker-iterator.rest.items,
      );
    }

pub loop-worker-preserved : goal.loop-worker-preserved
loop-worker-preserved g c =
    let kept = c.loop-worker.invariant in
    let front = c.loop-worker.yielded in
    let worker = c.in-Some.worker in
    let rest = c.next.new.self.rest.items in
    let slip = c.rest-typed.ensures.slip in
    let parts = ap (λ ws. front ++ ws) (sym c.in-Some.ensures.steps.0) ∙ kept.parts in
    record {
      parts = append_assoc front (worker ∷ []) rest ∙ parts;
      rested =
          subst (AreRested g.W.Pass.Caller g.W.Slip.Kept
          (front ++ worker ∷ [])) (sym slip.1) (rested-more g.W.Pass.Caller g.W.Slip.Kept front
          c.loop-worker.slips.items worker slip.0 kept.rested slip.2 slip.3);
      room = subst (λ n. length c.args.workers.items ≤ n) (sym c.rest-typed.ensures.room) kept.room;
      left =
          left-next front worker rest c.loop-worker.typed c.rest-typed.result kept.left c.rest-typed.ensures.typed
          c.rest-typed.ensures.lost
          (subst (λ ws. Ascend (map (λ w. (w.number, w.session)) ws)) (sym parts) c.requires.ascend);
    }
