use Rattle.std.proofs.Common.{◌≡◌, ◌≤◌, ◌∙◌, All, List, ap, length, subst, sym, true}
use Rattle.std.proofs.lemmas.List.Elements.{All-tail}
use Rattle.std.specs.List.{list_all}
use Rattle.std.specs.Map.{values_of}
use Rattle.key_scripts.specs.Script.{opens_well}
use Rattle.key_scripts.specs.declared.line.Line.{Line}
use Rattle.script_typing.specs.Woven.{Tasks}
use Rattle.script_typing.proofs.Hiring.{IsHiring, hiring-front, hiring-more}
use Rattle.script_typing.proofs.office.hire_all.Goals as goal

-- the workers so far are hired for the first of all tasks
pub returns-in_err-caller-clause-hired : goal.returns-in_err-caller-clause-hired
returns-in_err-caller-clause-hired g c =
    hiring-front g.W.Pass.Caller _ _ _ _ _ c.loop-number.invariant.hiring

pub loop-number-preserved : goal.loop-number-preserved
loop-number-preserved g c =
    let kept = c.loop-number.invariant in
    let left = c.pop_first.new.self.entries in
    let workers = c.loop-number.workers.items in
    let admitted = c.in_ok-caller.ensures in
    let removal = c.in-Some.ensures.removal in
    let first = g.W.Office.drawn c.args.roll.now in
    let drawn = g.W.Office.drawn c.loop-number.roll in
    let drawn' = g.W.Office.drawn c.admit.new.roll in
    let tasks = c.args.tasks.entries in
    record {
      owns = admitted.owned;
      hiring =
          subst (IsHiring g.W.Pass.Caller first drawn' tasks left) (sym c.push_reserved.ensures.items)
          (hiring-more g.W.Pass.Caller first drawn drawn' tasks left c.in-Some.number c.in-Some.lines workers
          c.new.result
          (subst (λ (ts : Tasks). IsHiring g.W.Pass.Caller first drawn tasks ts workers) removal kept.hiring)
          c.new.ensures.new (ap g.W.Pass.Caller.number c.new.ensures.caller ∙ admitted.number)
          (ap g.W.Pass.Caller.said c.new.ensures.caller ∙ admitted.said) admitted.drawn);
      room = subst (λ n. length tasks ≤ n) (sym c.push_reserved.ensures.capacity) kept.room;
      opens =
          All-tail (λ (ls : List Line). list_all opens_well ls ≡ true) c.in-Some.lines (values_of left)
          (subst (λ (ts : Tasks). All (λ (ls : List Line). list_all opens_well ls ≡ true) (values_of ts)) removal
          kept.opens);
    }
