use Rattle.std.proofs.Common.{◌≡◌, ◌∙◌, sym, subst, true, List}
use Rattle.std.specs.List.{list_all}
use Rattle.key_scripts.specs.Script.{opens_well}
use Rattle.key_scripts.specs.declared.line.Line.{Line}
use Rattle.skk_top.proofs.LoadInput.{drawn-open_well}
use Rattle.skk_top.proofs.load_each.share_load.Goals as goal

pub cut_lines-requires : goal.cut_lines-requires
cut_lines-requires c =
    subst (λ (lines : List Line). list_all opens_well lines ≡ true)
    (sym (c.into_vec.ensures ∙ c.in_ok-rules.ensures.lines)) (drawn-open_well c.args.options)
