use Rattle.std.proofs.Common.{rules, sym, subst}
use Rattle.std.specs.Str.{IsUtf8}
use Rattle.std.proofs.lemmas.Str.{IsUtf8-append, IsUtf8-had}
use Rattle.skk_text.specs.Contents.{IsHeldUtf8}
use Rattle.skk_text.proofs.content.Content.push_str.Goals as goal

pub invariant_of-self-else-is_err : goal.invariant_of-self-else-is_err
invariant_of-self-else-is_err c =
    let before : IsUtf8 c.in-Short.text.bytes = subst IsHeldUtf8 c.in-Short.is (IsUtf8-had _ c.self.invariant) in
    ∣ subst IsUtf8 (sym (search (rules, c.try_push_str.ensures.ok, c.if-is_err.ensures)))
    (IsUtf8-append _ _ before c.utf8.added) ∣₁

pub returns-else-is_err-clause-utf8 : goal.returns-else-is_err-clause-utf8
returns-else-is_err-clause-utf8 c = subst IsUtf8 c.self.view_is (IsUtf8-had _ c.self.invariant)

pub returns-in_ok-push_str-in-Long-clause-utf8 : goal.returns-in_ok-push_str-in-Long-clause-utf8
returns-in_ok-push_str-in-Long-clause-utf8 c = subst IsUtf8 c.self.view_is (IsUtf8-had _ c.self.invariant)

pub returns-in_err-push_str-in-Long-clause-utf8 : goal.returns-in_err-push_str-in-Long-clause-utf8
returns-in_err-push_str-in-Long-clause-utf8 c = subst IsUtf8 c.self.view_is (IsUtf8-had _ c.self.invariant)
