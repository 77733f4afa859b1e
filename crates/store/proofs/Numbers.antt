-- The kind of a number, where one has it and where none does.
use Rattle.std.proofs.Common.{◌≡◌, ℕ, arith, ⊎_elim, true, false, nat_le, is_ok, refl, sym, ap, ◌∙◌, Ok, Err, Result}
use Rattle.std.specs.Result.{MatchResult, result_unwrap_or}
use Rattle.std.specs.Prelude.{◌≢◌}
use Rattle.std.proofs.lemmas.Bool.{ne_eqb, lt-leb, cases_lt}
use Rattle.block.specs.declared.kind.Kind.{Kind}
use Rattle.block.specs.declared.kind.Kind.TheVariants.{Gc, Deleted, Json, Binary, Text, Embed, Format, List, Any, Doc, Skip}
use Rattle.block.specs.declared.number.UnknownNumber.{UnknownNumber}
use Rattle.block.specs.Kinds.{number_of}
use Rattle.store.specs.Kinds.{kind_of}

kind_of_number : (kind : Kind) → kind_of (number_of kind) ≡ kind
kind_of_number Gc = refl
kind_of_number Deleted = refl
kind_of_number Json = refl
kind_of_number Binary = refl
kind_of_number Text = refl
kind_of_number Embed = refl
kind_of_number Format = refl
kind_of_number List = refl
kind_of_number Any = refl
kind_of_number Doc = refl
kind_of_number Skip = refl

no_kind : (n : ℕ) → ((kind : Kind) → number_of kind ≢ n) → kind_of n ≡ Skip
no_kind n h =
    let other : (kind : Kind) → n ≢ number_of kind = λ kind e. h kind (sym e) in
    rw (ne_eqb n 0 (other Gc), ne_eqb n 1 (other Deleted), ne_eqb n 2 (other Json), ne_eqb n 3 (other Binary), ne_eqb n 4 (other Text), ne_eqb n 5 (other Embed), ne_eqb n 6 (other Format), ne_eqb n 7 (other List), ne_eqb n 8 (other Any), ne_eqb n 9 (other Doc)) refl

pub kind_from : (n : ℕ) (r : Result Kind UnknownNumber) → MatchResult r (λ kind. number_of kind ≡ n) (λ e. (e.number ≡ n) × ((kind : Kind) → number_of kind ≢ n)) → result_unwrap_or r Skip ≡ kind_of n
kind_from n (Ok kind) h = sym (kind_of_number kind) ∙ ap kind_of h
kind_from n (Err e) h = sym (no_kind n h.1)

kind_within : (kind : Kind) → nat_le (number_of kind) 10 ≡ true
kind_within Gc = refl
kind_within Deleted = refl
kind_within Json = refl
kind_within Binary = refl
kind_within Text = refl
kind_within Embed = refl
kind_within Format = refl
kind_within List = refl
kind_within Any = refl
kind_within Doc = refl
kind_within Skip = refl

none_within : (n : ℕ) → ((kind : Kind) → number_of kind ≢ n) → nat_le n 10 ≡ false
none_within n h =
    let other : (k : ℕ) → (kind : Kind) → number_of kind ≡ k → n ≢ k = λ k kind e q. h kind (e ∙ sym q) in
    ⊎_elim (λ lt. lt-leb n 10 lt)
    (λ le. absurd (omega (arith, le, other 0 Gc refl, other 1 Deleted refl, other 2 Json refl, other 3 Binary refl, other 4 Text refl, other 5 Embed refl, other 6 Format refl, other 7 List refl, other 8 Any refl, other 9 Doc refl, other 10 Skip refl)))
    (cases_lt 10 n)

pub kind_ok : (n : ℕ) (r : Result Kind UnknownNumber) → MatchResult r (λ kind. number_of kind ≡ n) (λ e. (e.number ≡ n) × ((kind : Kind) → number_of kind ≢ n)) → is_ok r ≡ nat_le n 10
kind_ok n (Ok kind) h = sym (ap (λ (k : ℕ). nat_le k 10) (sym h) ∙ kind_within kind)
kind_ok n (Err e) h = sym (none_within n h.1)
