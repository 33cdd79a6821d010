use Rattle.std.proofs.Common.{◌≡◌, ◌∙◌, ap, sym, subst, refl, inl, inr, Some, None, drop, option_copied}
use Rattle.skk_outside.specs.Memory.{file_named, FailsNext}
use Rattle.skk_outside.proofs.Shelves.{StandsAt-copied, file_named-found}
use Rattle.skk_outside.proofs.mem_shelf.MemShelfShelf.read.Goals as goal

pub returns-in_default-clause-fails : goal.returns-in_default-clause-fails
returns-in_default-clause-fails c =
    let same = c.deref.ensures.value ∙ ap (λ s. s.files) c.self.view_is in
    let absent : file_named c.args.self.now.files c.args.name.now ≡ None =
    file_named-found _ _ _ _ None same c.find_named.ensures (ap option_copied c.in_default.is) in
    (λ failed. inr absent, λ cause. refl)

pub returns-clause-bytes : goal.returns-clause-bytes
returns-clause-bytes c =
    let same = c.deref.ensures.value ∙ ap (λ s. s.files) c.self.view_is in
    let told =
    file_named-found _ _ _ _ (Some c.in-Some.field-0.now) same c.find_named.ensures (ap option_copied c.in-Some.is) in
    let rest = c.rest_of_file.ensures ∙ ap (drop c.args.from) c.as_slice.ensures in
    let copied = c.copy_what_fits.ensures in
    StandsAt-copied _ c.in-Some.field-0.now.1 c.rest_of_file.result.now c.args.into.now c.copy_what_fits.new.into
    c.args.from c.copy_what_fits.result told rest copied.count copied.room copied.bytes

pub returns-clause-fails : goal.returns-clause-fails
returns-clause-fails c =
    let same = c.deref.ensures.value ∙ ap (λ s. s.files) c.self.view_is in
    let told : file_named c.args.self.now.files c.args.name.now ≡ Some c.in-Some.field-0.now.1 =
    file_named-found _ _ _ _ (Some c.in-Some.field-0.now) same c.find_named.ensures (ap option_copied c.in-Some.is) in (
      λ failed. absurd cc,
      λ cause. elim cause [
        | inl fails ↦ c.in_ok-next.ensures.fails.1 (subst FailsNext (sym (ap (λ s. s.count) c.self.view_is)) fails)
        | inr absent ↦ let differ = sym absent ∙ told in cc
      ],
    )
