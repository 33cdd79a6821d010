use Rattle.std.proofs.Common.{sym, ap, codes, refl}
use Rattle.command_line.specs.Arguments.{options, option_named}
use Rattle.command_line.proofs.Tables.{not-found}
use Rattle.command_line.proofs.WordTexts.{spelled, not-spelled}
use Rattle.command_line.proofs.argument.option_named.Goals as goal

pub returns-in-text : goal.returns-in-text
returns-in-text c =
    ap option_named
    (sym (spelled c.as_str.result.now c.args.word.now (codes "--dict") c.as_str.ensures c.in-text.is refl))

pub returns-in-text-2 : goal.returns-in-text-2
returns-in-text-2 c =
    ap option_named
    (sym (spelled c.as_str.result.now c.args.word.now (codes "--rules") c.as_str.ensures c.in-text-2.is refl))

pub returns-in-text-3 : goal.returns-in-text-3
returns-in-text-3 c =
    ap option_named
    (sym (spelled c.as_str.result.now c.args.word.now (codes "--learned") c.as_str.ensures c.in-text-3.is refl))

pub returns-in-text-4 : goal.returns-in-text-4
returns-in-text-4 c =
    ap option_named
    (sym (spelled c.as_str.result.now c.args.word.now (codes "--limit") c.as_str.ensures c.in-text-4.is refl))

pub returns-in-text-5 : goal.returns-in-text-5
returns-in-text-5 c =
    ap option_named
    (sym (spelled c.as_str.result.now c.args.word.now (codes "--port") c.as_str.ensures c.in-text-5.is refl))

pub returns-in-text-6 : goal.returns-in-text-6
returns-in-text-6 c =
    ap option_named
    (sym (spelled c.as_str.result.now c.args.word.now (codes "--connections") c.as_str.ensures c.in-text-6.is refl))

pub returns-in-text-7 : goal.returns-in-text-7
returns-in-text-7 c =
    ap option_named
    (sym (spelled c.as_str.result.now c.args.word.now (codes "--book") c.as_str.ensures c.in-text-7.is refl))

pub returns-in-text-8 : goal.returns-in-text-8
returns-in-text-8 c =
    ap option_named
    (sym (spelled c.as_str.result.now c.args.word.now (codes "--typist") c.as_str.ensures c.in-text-8.is refl))

pub returns-in-text-9 : goal.returns-in-text-9
returns-in-text-9 c =
    ap option_named
    (sym (spelled c.as_str.result.now c.args.word.now (codes "--books") c.as_str.ensures c.in-text-9.is refl))

pub returns-in-text-10 : goal.returns-in-text-10
returns-in-text-10 c =
    ap option_named
    (sym (spelled c.as_str.result.now c.args.word.now (codes "--seed") c.as_str.ensures c.in-text-10.is refl))

pub returns-in-text-11 : goal.returns-in-text-11
returns-in-text-11 c =
    ap option_named
    (sym (spelled c.as_str.result.now c.args.word.now (codes "--sessions") c.as_str.ensures c.in-text-11.is refl))

pub returns-in-text-12 : goal.returns-in-text-12
returns-in-text-12 c =
    ap option_named
    (sym (spelled c.as_str.result.now c.args.word.now (codes "--lines") c.as_str.ensures c.in-text-12.is refl))

pub returns-in-text-13 : goal.returns-in-text-13
returns-in-text-13 c =
    ap option_named
    (sym (spelled c.as_str.result.now c.args.word.now (codes "--threads") c.as_str.ensures c.in-text-13.is refl))

pub returns-in-text-14 : goal.returns-in-text-14
returns-in-text-14 c =
    ap option_named
    (sym (spelled c.as_str.result.now c.args.word.now (codes "--look") c.as_str.ensures c.in-text-14.is refl))

pub returns-in-text-15 : goal.returns-in-text-15
returns-in-text-15 c =
    ap option_named
    (sym (spelled c.as_str.result.now c.args.word.now (codes "--complete") c.as_str.ensures c.in-text-15.is refl))

pub returns-in_default : goal.returns-in_default
returns-in_default c =
    let bytes = c.as_str.result.now in
    let word = c.args.word.now in
    let utf8 = c.as_str.utf8 in
    let same = c.as_str.ensures in
    not-found word options (
      not-spelled bytes word (codes "--dict") utf8 same c.in_default.not-text refl,
      (
        not-spelled bytes word (codes "--rules") utf8 same c.in_default.not-text-2 refl,
        (
          not-spelled bytes word (codes "--learned") utf8 same c.in_default.not-text-3 refl,
          (
            not-spelled bytes word (codes "--limit") utf8 same c.in_default.not-text-4 refl,
            (
              not-spelled bytes word (codes "--port") utf8 same c.in_default.not-text-5 refl,
              (
                not-spelled bytes word (codes "--connections") utf8 same c.in_default.not-text-6 refl,
                (
                  not-spelled bytes word (codes "--book") utf8 same c.in_default.not-text-7 refl,
                  (
                    not-spelled bytes word (codes "--typist") utf8 same c.in_default.not-text-8 refl,
                    (
                      not-spelled bytes word (codes "--books") utf8 same c.in_default.not-text-9 refl,
                      (
                        not-spelled bytes word (codes "--seed") utf8 same c.in_default.not-text-10 refl,
                        (
                          not-spelled bytes word (codes "--sessions") utf8 same c.in_default.not-text-11 refl,
                          (
                            not-spelled bytes word (codes "--lines") utf8 same c.in_default.not-text-12 refl,
                            (
                              not-spelled bytes word (codes "--threads") utf8 same c.in_default.not-text-13 refl,
                              (
                                not-spelled bytes word (codes "--look") utf8 same c.in_default.not-text-14 refl,
                                (
                                  not-spelled bytes word (codes "--complete") utf8 same c.in_default.not-text-15 refl,
                                  tt,
                                ),
                              ),
                            ),
                          ),
                        ),
                      ),
                    ),
                  ),
                ),
              ),
            ),
          ),
        ),
      ),
    )
