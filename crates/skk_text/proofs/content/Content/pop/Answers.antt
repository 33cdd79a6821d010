use Rattle.std.proofs.Common.{subst}
use Rattle.std.proofs.lemmas.Str.{IsUtf8-had, IsUtf8-string_bytes}
use Rattle.skk_text.specs.Contents.{IsHeldUtf8}
use Rattle.skk_text.proofs.content.Content.pop.Goals as goal
use Rattle.skk_text.proofs.content.Content.pop.Goals.{in-Short, in-Long}

pub invariant_of-self : goal.invariant_of-self
invariant_of-self c =
    elim c.match-self.branch [
      | in-Short w ↦ ∣ rw w.self-inside-is w.pop_short.ensures.utf8 ∣₁
      | in-Long w ↦ ∣ rw w.self-inside-is (IsUtf8-string_bytes w.pop_long.new.text) ∣₁
    ]

pub returns : goal.returns
returns c =
    elim c.match-self.branch [
      | in-Short w ↦
          rw (w.self-inside-is, ← c.self.view_is, w.in-Short.is)
          (w.pop_short.ensures.last (subst IsHeldUtf8 w.in-Short.is (IsUtf8-had _ c.self.invariant)))
      | in-Long w ↦ rw (w.self-inside-is, ← c.self.view_is, w.in-Long.is) w.pop_long.ensures
    ]
