-- What records leave with one more, and what the images of a journal that keeps a state are opened as.
use Rattle.std.proofs.Common.{ℕ, List, [], ◌∷◌, ◌++◌, Option, None, Some}
use Rattle.std.proofs.Common.{inl, inr, ap, subst}
use Rattle.skk_disk.specs.declared.disk.Disk.{Ghosts}
use Rattle.skk_disk.specs.Image.{Image}
use Rattle.skk_calls.specs.States.{State, empty_state}
use Rattle.skk_journal.specs.Contents.{Contents, with_record}
use Rattle.skk_journal.specs.Images.{Each, Opens, OpensEither}
use Rattle.skk_journal.specs.Journal.{OpenJournal}
use Rattle.skk_journal.specs.JournalLaws.{rests_open, doubts_open}
use Rattle.learned_store.specs.declared.form.PayloadForm.{PayloadForm}
use Rattle.learned_store.specs.Payloads.{Says, newest_version, state_told}
use Rattle.learned_store.specs.Recovered.{Leads, Leave}
use Rattle.learned_store.specs.Stores.{Keeps, RecoversOneOf, with_doubt}
use Rattle.learned_store.specs.DoubtLaws.{first_is, second_is}

-- records lead on where one more says something
leads_on : (version : ℕ) (start : State) (records : List (List ℕ)) (state : State) (payload : List ℕ)
    (form : PayloadForm) → Leads version start records state → Says version state payload form
    → Leads version start (records ++ payload ∷ []) (state_told state form)
leads_on version start [] state payload form is says =
    (form, subst (λ (s : State). Says version s payload form) is says, ap (λ (s : State). state_told s form) is)
leads_on version start (first ∷ records) state payload form leads says =
    (leads.0, leads.1, leads_on version (state_told start leads.0) records state payload form leads.2 says)

pub leave_on : (contents : Contents) (state : State) (payload : List ℕ) (form : PayloadForm) → Leave contents state
    → Says contents.version state payload form → Leave (with_record contents payload) (state_told state form)
leave_on contents = leads_on contents.version empty_state contents.records

-- an image that has one of two contents is opened as what it leaves
either_opened : (contents others : Contents) (state doubted : State) (image : Image) → Leave contents state
    → Leave others doubted → OpensEither newest_version contents others image
    → RecoversOneOf (with_doubt state (Some doubted)) image
either_opened contents others state doubted image left leave (inl opens) =
    (state, first_is state (doubted ∷ []), (contents, opens, left))
either_opened contents others state doubted image left leave (inr opens) =
    (doubted, second_is state doubted [], (others, opens, leave))

module _ {D : Type 0} (disk : Ghosts D) where
  -- each image that a stop now may leave is opened as the state that is kept, or as the one in doubt
  pub opened_now : (journal : OpenJournal D) (state : State) (doubt : Option State)
      → Keeps disk journal state doubt
      → Each (disk.left_since journal.disk (disk.time journal.disk)) (RecoversOneOf (with_doubt state doubt))
  opened_now journal state None (newest, contents, leave, rests) image left = (
    state,
    first_is state [],
    (
      contents,
      subst (λ (n : ℕ). Opens n contents image) newest (rests_open disk journal contents rests image left),
      leave,
    ),
  )
  opened_now journal state (Some doubted) (newest, contents, others, leave, leaves, doubts) image left =
      either_opened contents others state doubted image leave leaves
      (subst (λ (n : ℕ). OpensEither n contents others image) newest
      (doubts_open disk journal contents others doubts image left))
