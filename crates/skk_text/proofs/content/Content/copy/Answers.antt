use Rattle.std.proofs.Common.{sym, subst}
use Rattle.std.proofs.lemmas.Str.{IsUtf8-had, IsUtf8-string_bytes}
use Rattle.skk_text.specs.Contents.{IsHeldUtf8}
use Rattle.skk_text.proofs.content.Content.copy.Goals as goal
use Rattle.skk_text.proofs.content.Content.copy.Goals.{in-Short, in-Long+in_ok-from_str-in-Long}

pub invariant_of-result : goal.invariant_of-result
invariant_of-result c = elim c.match-self.branch [
  | in-Short w ↦ ∣ subst IsHeldUtf8 (sym w.held-is) (subst IsHeldUtf8 w.in-Short.is (IsUtf8-had _ c.self.invariant)) ∣₁
  | in-Long+in_ok-from_str-in-Long w ↦
      ∣ subst IsHeldUtf8 (sym w.held-is) (IsUtf8-string_bytes w.in_ok-from_str-in-Long.field-0) ∣₁
]
