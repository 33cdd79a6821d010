-- The places of the entries of each part.
use Rattle.std.specs.Prelude.{List}
use Rattle.skk_calls.specs.declared.part.Part.{Part}
use Rattle.skk_calls.specs.declared.part.Part.TheVariants.{Nasi, Ari}
use Rattle.dict_files.specs.declared.marked_places.MarkedPlaces.{MarkedPlaces}
use Rattle.dict_files.specs.declared.part_places.MarkedParts.{MarkedParts}
use Rattle.dict_files.specs.declared.part_places.PartPlaces.{PartPlaces}
use Rattle.dict_files.specs.declared.place.Place.{Place}

-- those of a part
abbrev pub places_in : PartPlaces → Part → List Place
places_in places Nasi = places.nasi.items
places_in places Ari = places.ari.items

-- those of a part with their marks
abbrev pub marked_in : MarkedParts → Part → MarkedPlaces
marked_in places Nasi = places.nasi
marked_in places Ari = places.ari
