-- Runs that come one after another: those of a list from left to right, and those of a client by their clocks.
use Rattle.std.specs.Prelude.{◌≡◌, ℕ, ◌+◌, ◌-◌, ◌<◌, ◌≤◌, List, [], ◌∷◌, length, Some, None, Ok, Err, Option, Result}
use Rattle.std.specs.Option.{option_map}
use Rattle.block.specs.declared.fault.Fault.{Fault}
use Rattle.block.specs.Units.{Meaning, Stretch}
use Rattle.reader.specs.Answers.{Onward, Described, Nearest, no_list}
use Rattle.iter.specs.declared.run.Run.{Run}
use Rattle.iter.specs.Bare.{Bare, bare}
use Rattle.iter.specs.declared.list_source.ListSource.{ListSource}

-- the answer is the first of the runs ws that are ahead of s, and the others are ahead of t; where there are none, t is s
abbrev pub Taken : {S P : Type 0} → (S → List (Bare P) → Type 0) → S → List (Bare P) → Option (Run P) → S → Type 0
Taken ahead s [] r t = (r ≡ None) × (t ≡ s)
Taken ahead s (w ∷ ws) r t = (option_map bare r ≡ Some w) × ahead t ws

-- what was given and what is ahead then were ahead before; where nothing was given, nothing was ahead
abbrev pub Given : {S P : Type 0} → (S → List (Bare P) → Type 0) → (S → Type 0) → S → Option (Run P) → S → Type 0
Given ahead certain s None t = certain s → ahead s []
Given ahead certain s (Some w) t = (certain s → certain t) × ((ws : List (Bare _)) → ahead t ws → ahead s (bare w ∷ ws))

-- ws are the runs of list l from index i on
abbrev pub RunsFrom : {P : Type 0} → Meaning → (P → Option Stretch) → ℕ → ℕ → List (Bare P) → Type 0
RunsFrom m st l i [] = i ≡ length (m.units l)
RunsFrom m st l i (w ∷ ws) = Onward m st l i (Some w.place) × Described m (st w.place) (Some w.about) × RunsFrom m st l (i + w.about.len) ws

-- ws are the runs from the one at a stretch on
abbrev pub FromStretch : {P : Type 0} → Meaning → (P → Option Stretch) → Option Stretch → List (Bare P) → Type 0
FromStretch m st None ws = ws ≡ []
FromStretch m st (Some t) ws = RunsFrom m st t.list t.from ws

-- ws are the runs from the one at a place on; from no place or a foreign one, none
abbrev pub FromHere : {P : Type 0} → Meaning → (P → Option Stretch) → Option P → List (Bare P) → Type 0
FromHere m st None ws = ws ≡ []
FromHere m st (Some p) ws = FromStretch m st (st p) ws

-- how many runs there are at most from a place on
abbrev pub most_runs : Meaning → Option Stretch → ℕ
most_runs m None = 0
most_runs m (Some t) = length (m.units t.list) - t.from

abbrev pub span_left : {P : Type 0} → Meaning → (P → Option Stretch) → Option P → ℕ
span_left m st None = 0
span_left m st (Some p) = most_runs m (st p)

-- what an opening answers: what is ahead are all the runs of the list, or the reader comes back with its own refusal
abbrev pub Opens : {R P : Type 0} → (R → Meaning) → (R → P → Option Stretch) → (R → ℕ) → R → ℕ → Result (ListSource R P) (R × Fault) → Type 0
Opens meaning stretch layers r l (Ok s) = (l < (meaning r).lists) × (s.reader ≡ r) × ((ws : List (Bare _)) → RunsFrom (meaning r) (stretch r) l 0 ws → FromHere (meaning r) (stretch r) s.at ws) × ((ws : List (Bare _)) → FromHere (meaning r) (stretch r) s.at ws → RunsFrom (meaning r) (stretch r) l 0 ws)
Opens meaning stretch layers r l (Err e) = ((meaning r).lists ≤ l) × (e.0 ≡ r) × (e.1 ≡ no_list (layers r) l)

-- no unit stands under two places
abbrev pub Apart : {P : Type 0} → (P → Option Stretch) → Type 0
Apart st = (p q : _) (t u : Stretch) (i : ℕ) → st p ≡ Some t → st q ≡ Some u → t.list ≡ u.list → t.from ≤ i → i < t.from + t.count → u.from ≤ i → i < u.from + u.count → p ≡ q

-- ws are a client's listed runs from a clock on, the first of which may begin before it
abbrev pub ByClock : {P : Type 0} → Meaning → (P → Option Stretch) → ℕ → ℕ → List (Bare P) → Type 0
ByClock m st client clock [] = Nearest m st client clock None
ByClock m st client clock (w ∷ ws) = Nearest m st client clock (Some w.place) × Described m (st w.place) (Some w.about) × ByClock m st client (w.about.id.clock + w.about.len) ws
