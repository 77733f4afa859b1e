-- Runs as plain data.
use Rattle.reader.specs.declared.reader.Description.{Description}
use Rattle.iter.specs.declared.run.Run.{Run}

-- where a run is, and what is said of it: any such pair, whether or not it has units
pub record Bare (P : Type 0) : Type 0 where
  pub place : P
  pub about : Description

abbrev pub bare : {P : Type 0} → Run P → Bare P
bare w = record { place = w.place; about = w.about }
