use Rattle.std.proofs.Common.{sym, ap, codes, refl}
use Rattle.command_line.specs.Command.{command_names, command_named}
use Rattle.command_line.proofs.Tables.{not-found}
use Rattle.command_line.proofs.WordTexts.{spelled, not-spelled}
use Rattle.command_line.proofs.command_name.command_named.Goals as goal

pub returns-in-type : goal.returns-in-type
returns-in-type c =
    ap command_named
    (sym (spelled c.as_str.result.now c.args.word.now (codes "type") c.as_str.ensures c.in-type.is refl))

pub returns-in-serve : goal.returns-in-serve
returns-in-serve c =
    ap command_named
    (sym (spelled c.as_str.result.now c.args.word.now (codes "serve") c.as_str.ensures c.in-serve.is refl))

pub returns-in-check : goal.returns-in-check
returns-in-check c =
    ap command_named
    (sym (spelled c.as_str.result.now c.args.word.now (codes "check") c.as_str.ensures c.in-check.is refl))

pub returns-in-dump : goal.returns-in-dump
returns-in-dump c =
    ap command_named
    (sym (spelled c.as_str.result.now c.args.word.now (codes "dump") c.as_str.ensures c.in-dump.is refl))

pub returns-in-share : goal.returns-in-share
returns-in-share c =
    ap command_named
    (sym (spelled c.as_str.result.now c.args.word.now (codes "share") c.as_str.ensures c.in-share.is refl))

pub returns-in-load : goal.returns-in-load
returns-in-load c =
    ap command_named
    (sym (spelled c.as_str.result.now c.args.word.now (codes "load") c.as_str.ensures c.in-load.is refl))

pub returns-in-ask : goal.returns-in-ask
returns-in-ask c =
    ap command_named
    (sym (spelled c.as_str.result.now c.args.word.now (codes "ask") c.as_str.ensures c.in-ask.is refl))

pub returns-in-import : goal.returns-in-import
returns-in-import c =
    ap command_named
    (sym (spelled c.as_str.result.now c.args.word.now (codes "import") c.as_str.ensures c.in-import.is refl))

pub returns-in_default : goal.returns-in_default
returns-in_default c =
    let bytes = c.as_str.result.now in
    let word = c.args.word.now in
    let utf8 = c.as_str.utf8 in
    let same = c.as_str.ensures in
    not-found word command_names (
      not-spelled bytes word (codes "type") utf8 same c.in_default.not-type refl,
      (
        not-spelled bytes word (codes "serve") utf8 same c.in_default.not-serve refl,
        (
          not-spelled bytes word (codes "check") utf8 same c.in_default.not-check refl,
          (
            not-spelled bytes word (codes "dump") utf8 same c.in_default.not-dump refl,
            (
              not-spelled bytes word (codes "share") utf8 same c.in_default.not-share refl,
              (
                not-spelled bytes word (codes "load") utf8 same c.in_default.not-load refl,
                (
                  not-spelled bytes word (codes "ask") utf8 same c.in_default.not-ask refl,
                  (not-spelled bytes word (codes "import") utf8 same c.in_default.not-import refl, tt),
                ),
              ),
            ),
          ),
        ),
      ),
    )
