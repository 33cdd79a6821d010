use Rattle.std.proofs.Common.{◌≡◌, ℕ, List}
use Rattle.std.proofs.lemmas.Bool.{and_from}
use Rattle.skk_calls.specs.declared.part.Part.{Part}
use Rattle.skk_calls.specs.declared.part.Part.TheVariants.{Nasi, Ari}
use Rattle.dict_format.specs.FileLines.{entries_of}
use Rattle.dict_format.specs.ListedLaws.{listed-keys, listed-rows}
use Rattle.dict_files.specs.declared.marked_places.MarkedPlaces.{MarkedPlaces}
use Rattle.dict_files.specs.declared.part_places.MarkedParts.{MarkedParts}
use Rattle.dict_files.specs.declared.place.Place.{Place}
use Rattle.dict_files.specs.FilePlaces.{AreMarks, IsPart}
use Rattle.dict_files.specs.PlacesOfParts.{marked_in}
use Rattle.dict_files.proofs.InOrder.{entries_readable}
use Rattle.dict_files.proofs.scanning.places_of.Goals as goal

-- what holds of each of the two parts holds of any
both : (P : Part → Type 0) → P Nasi → P Ari → (part : Part) → P part
both P nasi ari Nasi = nasi
both P nasi ari Ari = ari

-- with their marks the places are those of the part still
part-marked : (part : Part) (bytes : List ℕ) (marked : MarkedPlaces) (places : List Place)
    → marked.places.items ≡ places → IsPart part bytes places → IsPart part bytes marked.places.items
part-marked part bytes marked places same is = rw same is

pub marked-requires : goal.marked-requires
marked-requires c =
    rw c.as_bytes-bytes.ensures.value
    (entries_readable Nasi c.args.text.now c.sort_places.new.places.items
    ((rw c.as_bytes-bytes.ensures.value at c.in_ok-sort_places.ensures) Nasi (c.in_ok-nasi.ensures Nasi)).entries)

pub marked-requires-2 : goal.marked-requires-2
marked-requires-2 c =
    rw c.as_bytes-bytes.ensures.value
    (entries_readable Ari c.args.text.now c.sort_places-2.new.places.items
    ((rw c.as_bytes-bytes.ensures.value at c.in_ok-sort_places-2.ensures) Ari (c.in_ok-nasi.ensures Ari)).entries)

pub returns : goal.returns
returns c =
    let text = c.args.text.now in
    let law = c.lines_spell_one_row.ensures in
    let (listed, is) = c.files_list_one_thing.ensures.some text c.requires c.utf8.text in
    let places : MarkedParts = record { nasi = c.in_ok-nasi-2.nasi; ari = c.in_ok-ari.ari } in
    record {
      lists = (listed, is, c.files_list_one_thing.ensures.rows text listed is);
      rows =
          and_from _ _ (listed-rows (λ part line row e. law.valid part line row ((law.read part line row).1 e))
          (entries_of text)) (listed-keys (entries_of text));
      parts =
          both (λ part. IsPart part text (marked_in places part).places.items)
          (part-marked Nasi text c.in_ok-nasi-2.nasi c.sort_places.new.places.items c.in_ok-nasi-2.ensures.places
          ((rw c.as_bytes-bytes.ensures.value at c.in_ok-sort_places.ensures) Nasi (c.in_ok-nasi.ensures Nasi)))
          (part-marked Ari text c.in_ok-ari.ari c.sort_places-2.new.places.items c.in_ok-ari.ensures.places
          ((rw c.as_bytes-bytes.ensures.value at c.in_ok-sort_places-2.ensures) Ari (c.in_ok-nasi.ensures Ari)));
      marks =
          both (λ part. AreMarks text (marked_in places part).places.items (marked_in places part).marks)
          (rw c.as_bytes-bytes.ensures.value at c.in_ok-nasi-2.ensures.marks)
          (rw c.as_bytes-bytes.ensures.value at c.in_ok-ari.ensures.marks);
    }
