use Rattle.std.proofs.Common.{◌≡◌, None, sym}
use Rattle.exact_readers.specs.ExactLaws.{shrinks}
use Rattle.exact_readers.specs.LoopLaws.{taken_more, taken_last}
use Rattle.exact_readers.proofs.reading.read_many.Goals as goal

pub loop-values-smaller : goal.loop-values-smaller
loop-values-smaller g c =
    shrinks (g.R.Reader.format c.args.reader.now) c.requires (g.R.Reader.tokens c.loop-values.rest.now) _
    (g.R.Reader.tokens c.in-Some.behind.now) (sym (rw c.in-Some.is at c.in_ok-value.ensures))

pub loop-values-preserved : goal.loop-values-preserved
loop-values-preserved g c =
    taken_more (g.R.Reader.format c.args.reader.now) c.requires (g.R.Reader.tokens c.args.front.now)
    (g.R.Reader.items c.loop-values.values) _ _ (g.R.Reader.tokens c.loop-values.rest.now)
    (g.R.Reader.tokens c.in-Some.behind.now) c.in_ok-push.ensures
    (sym (rw c.in-Some.is at c.in_ok-value.ensures)) c.loop-values.invariant

pub returns : goal.returns
returns g c =
    let none : (g.R.Reader.format c.args.reader.now).step (g.R.Reader.tokens c.loop-values.rest.now) ≡ None =
    sym (rw c.in_default.is at c.in_ok-value.ensures) in
    taken_last (g.R.Reader.format c.args.reader.now) c.requires (g.R.Reader.tokens c.args.front.now)
    (g.R.Reader.items c.loop-values.values) (g.R.Reader.tokens c.loop-values.rest.now) none c.loop-values.invariant
