-- While both files are opened, each image is opened as the state that was there before.
use Rattle.std.proofs.Common.{◌≡◌, ℕ, List, [], ap, refl, subst, sym, ◌∙◌}
use Rattle.skk_calls.specs.States.{State, empty_state}
use Rattle.skk_disk.specs.Image.{Image}
use Rattle.skk_journal.specs.declared.choice.LiveChoice.{LiveChoice}
use Rattle.skk_journal.specs.declared.choice.LiveChoice.TheVariants.{NoneBy, CutShortIn, NoLive, LiveIn}
use Rattle.skk_journal.specs.Choice.{choice}
use Rattle.skk_journal.specs.Contents.{Contents, no_records}
use Rattle.skk_journal.specs.Images.{Opens, StillOpens}
use Rattle.skk_journal.specs.Opening.{HasChosen}
use Rattle.learned_store.specs.Payloads.{newest_version}
use Rattle.learned_store.specs.Recovered.{Leads, Leave}
use Rattle.learned_store.specs.Stores.{Recovers}

module _ (start : Image) (contents : Contents) (state : State) (image : Image)
    (opens : Opens newest_version contents start) (leave : Leave contents state)
    (still : StillOpens newest_version start contents image) where
  -- where no file was live there were no records, which leave the same whatever the version is
  anew : choice newest_version start ≡ NoLive → Recovers state image
  anew is =
      let none : contents ≡ no_records newest_version = subst (HasChosen newest_version start contents) is opens in
      let records : contents.records ≡ [] = ap (λ (c : Contents). c.records) none in
      let empty : state ≡ empty_state = subst (λ (c : Contents). Leave c state) none leave in (
        record { version = still.records.0; records = contents.records },
        still.records.1,
        subst (λ (l : List (List ℕ)). Leads still.records.0 empty_state l state) (sym records) empty,
      )

  by : (chosen : LiveChoice) → choice newest_version start ≡ chosen → Recovers state image
  by NoLive is = anew is
  by (LiveIn live) is = (contents, still.live (λ none. cc (sym is ∙ none)), leave)
  by (NoneBy file first) is = absurd (subst (HasChosen newest_version start contents) is opens)
  by (CutShortIn file) is = absurd (subst (HasChosen newest_version start contents) is opens)

  pub still_recovers : Recovers state image
  still_recovers = by (choice newest_version start) refl
