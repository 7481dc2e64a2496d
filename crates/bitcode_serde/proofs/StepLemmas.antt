-- A step to a place, by the reader.
use Rattle.std.proofs.Common.{◌≡◌, ◌≢◌, ℕ, zero, suc, ◌+◌, ◌-◌, ◌<◌, ◌≤◌, List, [], ◌∷◌, ◌++◌, length, map, get_or, refl, ap, sym, subst, ◌∙◌, ◌⊎◌, inl, inr, arith, length-append}
use Rattle.std.proofs.Math.ListN.{set}
use Rattle.bitcode_untyped.specs.Machine.{Opened, State, whole}
use Rattle.bitcode_untyped.specs.PlacedColumns.{PlacedColumn}
use Rattle.bitcode_untyped.specs.Walk.{Place}
use Rattle.bitcode_serde.specs.Reading.{counts, Back, Hosts, HostAll, Stands}
use Rattle.bitcode_serde.specs.Places.{place_at, places, IsPlace, IsGrown}
use Rattle.bitcode_serde.specs.declared.places.Below.{Below}
use Rattle.bitcode_serde.specs.declared.reader.OpenColumn.{OpenColumn}
use Rattle.bitcode_serde.specs.declared.reader.Reader.{Reader}
use Rattle.bitcode_serde.proofs.ReadingLemmas.{told_alike}
use Rattle.bitcode_serde.proofs.PlaceLemmas.{at_front, inside_places, within_or_last, places-length, grown_size, grown_places}

same_or_other : (i n : ℕ) → (i ≡ n) ⊎ (i ≢ n)
same_or_other zero zero = inl refl
same_or_other zero (suc n) = inr (λ e. omega (arith, e))
same_or_other (suc i) zero = inr (λ e. omega (arith, e))
same_or_other (suc i) (suc n) = elim (same_or_other i n) [ inl e ↦ inl (ap (λ k. suc k) e) | inr h ↦ inr (λ e. h (omega (arith, e))) ]

set_here : (ns : List ℕ) (i v : ℕ) → i < length ns → get_or (set ns i v) i 0 ≡ v
set_here [] i v h = absurd (omega (arith, h))
set_here (n ∷ ns) zero v h = refl
set_here (n ∷ ns) (suc i) v h = set_here ns i v (omega (arith, h))

set_elsewhere : (ns : List ℕ) (i j v : ℕ) → j ≢ i → get_or (set ns i v) j 0 ≡ get_or ns j 0
set_elsewhere [] i j v h = refl
set_elsewhere (n ∷ ns) zero zero v h = absurd (h refl)
set_elsewhere (n ∷ ns) zero (suc j) v h = refl
set_elsewhere (n ∷ ns) (suc i) zero v h = refl
set_elsewhere (n ∷ ns) (suc i) (suc j) v h = set_elsewhere ns i j v (λ e. h (ap (λ k. suc k) e))

-- the places so far keep their numbers
pub kept_place : (old new : List Below) (b : Below) (n : ℕ) → IsGrown old b new n → (i : ℕ) (p : Place) → IsPlace old i p → IsPlace new i p
kept_place old new b n grown i p h =
    let g = grown_places old new b n grown in
    let l = grown_size old new b n grown in
    let within = h.0 in
    (omega (arith, l, within), ap (λ ps. place_at ps i) g.1 ∙ at_front (places old) g.0 i (inside_places old i h.0) ∙ h.1)

-- a place is one of those so far, or has the number
inside_or_new : (old new : List Below) (b : Below) (n : ℕ) → IsGrown old b new n → (i : ℕ) → i < length (places new) → (i ≤ length old) ⊎ (i ≡ n)
inside_or_new old new b n (inl e) i h = let l = places-length new in let s = ap length e in inl (omega (arith, h, l, s))
inside_or_new old new b n (inr e) i h =
    let l = places-length new in
    let s = ap length e.0 in
    let m = length-append old (b ∷ []) in
    let last = e.1 in
    elim (within_or_last i (length old + 1) (omega (arith, h, l, s, m))) [
      | inl k ↦ inl (omega (arith, k))
      | inr k ↦ inr (omega (arith, k, s, m, last))
    ]

back_more : (ps more : List Place) (cs : List OpenColumn) (os : List Opened) → Back ps cs os → Back (ps ++ more) cs os
back_more ps more [] [] h = tt
back_more ps more [] (o ∷ os) h = absurd h
back_more ps more (c ∷ cs) [] h = absurd h
back_more ps more (c ∷ cs) (o ∷ os) h =
    let l = length-append ps more in
    let w = h.0.inside in (
      record {
        inside = omega (arith, l, w);
        place = h.0.place ∙ sym (at_front ps more c.place h.0.inside);
        kind = h.0.kind;
        size = h.0.size;
        entries = h.0.entries;
        tallies = h.0.tallies;
        are = h.0.are;
      },
      back_more ps more cs os h.1,
    )

-- ---- the count of the place is set

module _ (bs more : List Below) (b : Below) (n count : ℕ) (q : Place) (grown : IsGrown bs b more n) (some : 0 < n) (found : IsPlace more n q)
    (ns mid : List ℕ) (counted : length bs ≤ length ns) (room : n ≤ length mid) (same : (i : ℕ) → i < length ns → get_or mid i 0 ≡ get_or ns i 0) where
  count_here : get_or (1 ∷ set mid (n - 1) count) n 0 ≡ count
  count_here =
      let at : n ≡ suc (n - 1) = omega (arith, some) in
      ap (λ k. get_or (1 ∷ set mid (n - 1) count) k 0) at ∙ set_here mid (n - 1) count (omega (arith, some, room))

  count_there : (i : ℕ) → i ≢ n → i ≤ length bs → get_or (1 ∷ set mid (n - 1) count) i 0 ≡ get_or (1 ∷ ns) i 0
  count_there zero other h = refl
  count_there (suc i) other h = set_elsewhere mid (n - 1) i count (λ e. other (omega (arith, e, some))) ∙ same i (omega (arith, h, counted))

  hosts_stepped : (ws : List PlacedColumn) → HostAll ws (places bs) (1 ∷ ns) → Hosts ws q count → HostAll ws (places more) (1 ∷ set mid (n - 1) count)
  hosts_stepped ws all one i h =
      elim (same_or_other i n) [
        | inl e ↦
            let p_is : place_at (places more) i ≡ q = ap (place_at (places more)) e ∙ found.1 in
            let n_is : get_or (1 ∷ set mid (n - 1) count) i 0 ≡ count = ap (λ k. get_or (1 ∷ set mid (n - 1) count) k 0) e ∙ count_here in
            subst (λ p. Hosts ws p (get_or (1 ∷ set mid (n - 1) count) i 0)) (sym p_is) (subst (Hosts ws q) (sym n_is) one)
        | inr other ↦ elim (inside_or_new bs more b n grown i h) [
          | inl k ↦
              let p = kept_place bs more b n grown i (place_at (places bs) i) (k, refl) in
              subst (λ p. Hosts ws p (get_or (1 ∷ set mid (n - 1) count) i 0)) (sym p.1)
              (subst (Hosts ws (place_at (places bs) i)) (sym (count_there i other k)) (all i (inside_places bs i k)))
          | inr e ↦ absurd (other e)
        ]
      ]

  pub stands_stepped : (old new : Reader) → old.places.below.items ≡ bs → new.places.below.items ≡ more → old.counts.items ≡ ns → new.counts.items ≡ set mid (n - 1) count
      → new.columns ≡ old.columns → new.input.now ≡ old.input.now → new.verdict ≡ old.verdict → (a : State) → Stands old a → Hosts (map whole a.opened) q count → Stands new a
  stands_stepped old new was is were are columns input verdict a s one =
      let g = grown_places bs more b n grown in
      let backs = subst (λ z. Back (places z) old.columns.items a.opened) was s.backs in
      let all = subst (λ z. HostAll (map whole a.opened) z (1 ∷ ns)) (ap places was) (subst (λ z. HostAll (map whole a.opened) (places old.places.below.items) (1 ∷ z)) were s.hosts) in
      record {
        backs = subst (λ z. Back z new.columns.items a.opened) (sym (ap places is ∙ g.1)) (subst (λ z. Back (places bs ++ g.0) z.items a.opened) (sym columns)
            (back_more (places bs) g.0 old.columns.items a.opened backs));
        hosts = subst (λ z. HostAll (map whole a.opened) (places z) (counts new)) (sym is)
            (subst (λ z. HostAll (map whole a.opened) (places more) (1 ∷ z)) (sym are) (hosts_stepped (map whole a.opened) all one));
        input = s.input ∙ sym input;
        told = told_alike old.verdict new.verdict (map whole a.opened) (map whole a.opened) old.input.now new.input.now verdict refl (sym input) s.told;
      }
