-- Slices written into a buffer, one after another.
use Rattle.std.proofs.Common.{◌≡◌, ℕ, ◌+◌, ◌<◌, List, [], ◌∷◌, ◌++◌, map, length, take, drop, set, Some, None, Ok, Option, sym, refl, ap, ◌∙◌, append_assoc, arith, length-append, drop-drop, drop-set-lt}
use mathlib.Core.List.{map-append}
use Rattle.std.proofs.lemmas.List.{take_more_set}
use Rattle.std.specs.Option.{option_map}
use Rattle.iter.specs.declared.slice.ItemSlice.{ItemSlice}
use Rattle.iter.specs.Ranges.{Course, Piece, piece_of, over}
use Rattle.iter.specs.Steps.{Told}
use Rattle.iter.specs.Collects.{Holds}

module _ {I P : Type 0} (coming : I → Course P → Type 0) where
  pub holds_none : (c : Course P) (out : List (Option (ItemSlice P))) (i : I) → coming i c → Holds coming c out out 0 i
  holds_none c out i comes = record { came = []; later = c; comes = comes; held = refl; rest = refl; many = refl; slices = refl; fault = refl }

  module _ (c : Course P) (before out : List (Option (ItemSlice P))) (n : ℕ) (i t : I) (h : Holds coming c before out n i) where
    pub holds_more : (s : ItemSlice P) → n < length out → ((d : Course P) → coming i d → Told coming d (Ok (Some s)) t) → Holds coming c before (set out n (Some s)) (n + 1) t
    holds_more s room told =
        let step = told h.later h.comes in
        let is = step.answer in
        let came = h.came in record {
          came = came ++ (piece_of s ∷ []);
          later = step.later;
          comes = step.comes;
          held = ap (map (option_map piece_of)) (take_more_set out n (Some s) room) ∙ map-append (option_map piece_of) (take n out) (Some s ∷ []) ∙ ap (λ (xs : List (Option (Piece P))). xs ++ (Some (piece_of s) ∷ [])) h.held ∙ sym (map-append Some came (piece_of s ∷ []));
          rest = drop-set-lt (n + 1) out n (Some s) (omega arith) ∙ sym (drop-drop 1 n out) ∙ ap (drop 1) h.rest ∙ drop-drop 1 n before;
          many = length-append came (piece_of s ∷ []) ∙ ap (λ (k : ℕ). k + 1) h.many;
          slices = h.slices ∙ ap (λ (x : Course P). came ++ x.slices) is ∙ sym (append_assoc came (piece_of s ∷ []) step.later.slices);
          fault = h.fault ∙ ap (λ (x : Course P). x.fault) is;
        }

    pub holds_all : ((d : Course P) → coming i d → Told coming d (Ok None) t) → (k : Holds coming c before out n t) × (k.later ≡ over)
    holds_all told =
        let step = told h.later h.comes in
        let is = step.answer in (
          record {
            came = h.came;
            later = step.later;
            comes = step.comes;
            held = h.held;
            rest = h.rest;
            many = h.many;
            slices = h.slices ∙ ap (λ (x : Course P). h.came ++ x.slices) is;
            fault = h.fault ∙ ap (λ (x : Course P). x.fault) is;
          },
          step.ends refl,
        )
