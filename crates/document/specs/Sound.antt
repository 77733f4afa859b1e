-- What accepted tables have, by index.
use Rattle.std.specs.Prelude.{◌≡◌, ℕ, ◌^◌, ◌<◌, ◌≤◌, true, ◌⊎◌, length, is_some, Some, None}
use Rattle.store.specs.Clocks.{end_of}
use Rattle.store.specs.Records.{Store, run_at, list_at}
use Rattle.links.specs.Lengths.{visible_sum}
use Rattle.links.specs.Links.{is_list, holds_one, holder_agrees}
use Rattle.content.specs.Content.{run_filled}
use Rattle.document.specs.Meaning.{clock_in, offset}

-- what the third pass finds of the links
pub record Linked (d : Store) : Type 0 where
  pub to_left : (i j : ℕ) → i < length d.runs → (run_at d i).left ≡ Some j → (j < length d.runs) × ((run_at d j).right ≡ Some i) × ((run_at d j).list ≡ (run_at d i).list)
  pub to_right : (i j : ℕ) → i < length d.runs → (run_at d i).right ≡ Some j → (j < length d.runs) × ((run_at d j).left ≡ Some i) × ((run_at d j).list ≡ (run_at d i).list)
  pub begins : (i l : ℕ) → i < length d.runs → (run_at d i).left ≡ None → (run_at d i).list ≡ Some l → (list_at d l).start ≡ Some i
  pub start_of : (l i : ℕ) → l < length d.lists → (list_at d l).start ≡ Some i → (i < length d.runs) × ((run_at d i).left ≡ None) × ((run_at d i).list ≡ Some l)
  pub reached : (i : ℕ) → i < length d.runs → is_some (offset d i) ≡ true

pub record Sound (d : Store) : Type 0 where
  pub some : (i : ℕ) → i < length d.runs → 0 < (run_at d i).len
  pub small : (i : ℕ) → i < length d.runs → end_of (run_at d i) ≤ 2147483647
  pub listed : (i l : ℕ) → i < length d.runs → (run_at d i).list ≡ Some l → l < length d.lists
  pub apart : (i : ℕ) → i < length d.runs → (run_at d i).list ≡ None → ((run_at d i).left ≡ None) × ((run_at d i).right ≡ None)
  pub clear : (i j : ℕ) → i < length d.runs → j < length d.runs → (run_at d i).id.client ≡ (run_at d j).id.client → (i ≡ j) ⊎ ((end_of (run_at d i) ≤ (run_at d j).id.clock) ⊎ (end_of (run_at d j) ≤ (run_at d i).id.clock))
  pub links : Linked d
  pub known : (i : ℕ) → i < length d.runs → end_of (run_at d i) ≤ clock_in d.clients (run_at d i).id.client
  pub stored : (l : ℕ) → l < length d.lists → (list_at d l).len ≡ visible_sum d l (length d.runs)
  pub short : (l : ℕ) → l < length d.lists → (list_at d l).len < 2 ^ 32
  pub clocks : (c : ℕ) → clock_in d.clients c < 2 ^ 32
  pub single : (i : ℕ) → i < length d.runs → is_list (run_at d i) ≡ true → (run_at d i).len ≡ 1
  pub holds : (i : ℕ) → i < length d.runs → holds_one d (run_at d i) ≡ true
  pub holder : (l : ℕ) → l < length d.lists → holder_agrees d (list_at d l).holder ≡ true
  pub filled : (i : ℕ) → i < length d.runs → run_filled d (run_at d i) ≡ true
