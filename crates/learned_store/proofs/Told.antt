-- What the record of a plan tells of the call that was planned.
use Rattle.std.proofs.Common.{◌≡◌, ℕ, true, nat_le, Option, Some, List, refl, sym, ◌∙◌, ap, subst}
use Rattle.std.specs.Option.{option_map_or}
use Rattle.skk_calls.specs.declared.call.Call.{Call}
use Rattle.skk_calls.specs.Dictionary.{after, is_call, moves}
use Rattle.skk_calls.specs.States.{State, is_valid}
use Rattle.skk_journal.specs.Records.{IsSized, need as record_need}
use Rattle.learn_index.specs.declared.plan.Plan.{Plan}
use Rattle.learn_index.specs.declared.plan.Plan.TheVariants.{Still, Move, Lists}
use Rattle.learn_index.specs.Plans.{IsPlanned}
use Rattle.learned_store.specs.declared.form.PayloadForm.{PayloadForm}
use Rattle.learned_store.specs.declared.form.PayloadForm.TheVariants.{Put, Drop, SetCount, Note, SetList}
use Rattle.learned_store.specs.declared.writing.Record.{Record}
use Rattle.learned_store.specs.Payloads.{change_told, first_version}
use Rattle.learned_store.specs.Written.{IsWritten, Told, may_stand, noted_in, planned_told, TellsOf}
use Rattle.learned_store.proofs.Changes.{change_leaves}
use Rattle.learned_store.proofs.Needs.{needs_record}
use Rattle.learned_store.proofs.PlansTold.{plan_told}
use Rattle.learned_store.proofs.Sized.{sound_sized}
use Rattle.learned_store.proofs.SoundChanges.{put_sound, drop_sound, list_sound, note_sound, form_follows, change_later}

module _ (state : State) (call : Call) (valid : is_valid state ≡ true) (typed : is_call call ≡ true)
    (later : is_valid (after state call) ≡ true) where
  stands : (form : PayloadForm) → moves state call ≡ true → change_told state call ≡ Some form
      → may_stand form ≡ true
  stands (Put book count row) moved is = put_sound state call book count row valid typed later moved is
  stands (Drop book count key) moved is = drop_sound state call book count key typed is
  stands (SetCount book count) moved is = refl
  stands (Note book count key cand) moved is = note_sound state call book count key cand typed is
  stands (SetList typist books) moved is = list_sound state call typist books typed is

  -- what the record tells of what the call's change says
  told_of : (form : PayloadForm) (written : Record) → moves state call ≡ true → change_told state call ≡ Some form
      → IsWritten form written → Told state call written
  told_of form written moved is tells =
      let sound = tells.sound (stands form moved is) in
      record {
        form = form;
        moved = moved;
        sized = subst (λ (bytes : List ℕ). IsSized bytes) (sym tells.is) (sound_sized form sound);
        says = λ version known. record {
          known = subst (λ (n : ℕ). nat_le n version ≡ true) tells.version known;
          sound = sound;
          counted = change_later state call form is;
          follows = form_follows state call form valid typed later moved is;
          is = tells.is;
        };
        leaves = change_leaves state call form valid typed moved is;
        needs = needs_record state call form is ∙ ap record_need (sym tells.is);
        version = tells.version ∙ sym (ap (λ (o : Option PayloadForm). option_map_or first_version o 1) is);
      }

  pub told : (plan : Plan) (written : Record) → IsPlanned state call plan → TellsOf state call plan written
      → Told state call written
  told (Still reply) written planned tells = absurd tells
  told (Move book count key row reply) written planned tells =
      told_of (planned_told (noted_in state call) book count key row) written planned.0
      (plan_told state call book count key row reply typed planned) tells
  told (Lists who list reply) written planned tells =
      told_of (SetList who list) written planned.0 (ap (change_told state) planned.2) tells
