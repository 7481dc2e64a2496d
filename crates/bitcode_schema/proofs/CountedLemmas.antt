-- The nodes of data that were read are counted.
use Rattle.std.proofs.Common.{◌≡◌, ℕ, suc, ◌+◌, ◌*◌, ◌^◌, ◌<◌, ◌≤◌, Bool, false, List, [], length, sum, replicate, All, Option, None, sym, ap, subst, ◌∙◌, inl, inr, arith, get_or-set_same, length-set}
use Rattle.std.specs.Prelude.{◌≢◌, slice_set}
use Rattle.std.proofs.lemmas.Bool.{cases_lt}
use Rattle.std.proofs.lemmas.List.{length-replicate, get_or-set_other}
use Rattle.std.proofs.lemmas.List.Elements.{All-weaker}
use Rattle.std.proofs.lemmas.List.Folds.{sum_by-replicate}
use Rattle.bitcode_columns.specs.Histogram.{count_of}
use Rattle.bitcode_columns.specs.Reading.{Reads}
use Rattle.bitcode_columns.specs.VariantColumn.{SpellsVariants}
use Rattle.bitcode_shapes.specs.Datum.{Datum, list, data_of}
use Rattle.bitcode_shapes.specs.Ints.{int_shape}
use Rattle.bitcode_shapes.specs.Shape.{Shape, Shapes, IsOf, unit_shape, seq_shape, map_shape, array_shape, pair_shape, choice_shape, variant_count}
use Rattle.bitcode_coder.specs.ColumnFree.{saturated}
use Rattle.bitcode_coder.specs.LengthColumn.{SpellsLengths}
use Rattle.bitcode_coder.specs.Spelling.{Spells}
use Rattle.bitcode_parts.specs.Lists.{lists_of}
use Rattle.bitcode_parts.specs.Payloads.{payloads_of, choices_of}
use Rattle.bitcode_parts.proofs.ArrayReadingLemmas.{reads_arrays}
use Rattle.bitcode_parts.proofs.ListLemmas.{reads_sequence}
use Rattle.bitcode_derive.proofs.MapReadingLemmas.{reads_map}
use Rattle.bitcode_enums.specs.ByNumber.{shape_at, KeepsOthers}
use Rattle.bitcode_enums.proofs.PayloadReadingLemmas.{ReadTo, read_none, read_next, read_all}
use Rattle.bitcode_enums.proofs.ReadingLemmas.{reads_enum}
use Rattle.bitcode_tuples.specs.Pairs.{pairs_of}
use Rattle.bitcode_tuples.proofs.ReadingLemmas.{reads_pairs}
use Rattle.bitcode_untyped.specs.Nodes.{node_count}
use Rattle.bitcode_schema.specs.Counting.{CountsNodes}
use Rattle.bitcode_schema.specs.Reading.{ReadsData}
use Rattle.bitcode_schema.proofs.CountLemmas.{total, totals, totals-none, totals-set, total-each, total-pairs, total-lists, total-choices, count_none, none_there}
use Rattle.bitcode_schema.proofs.DealLemmas.{cases_same}

-- ---- the nodes of one datum

pub unit_node : (d : Datum) → IsOf unit_shape d → node_count d ≡ 1
unit_node d is = ap node_count is

pub id_nodes : (d : Datum) → IsOf (array_shape 16 (int_shape 1 false)) d → node_count d ≡ 17
id_nodes d is =
    let inside : total is.elements ≡ length is.elements * 1 =
    total-each 1 is.elements (All-weaker (IsOf (int_shape 1 false)) (λ e. node_count e ≡ 1) (λ e one. ap node_count one.is) is.elements is.each) in
    let whole : node_count (list (data_of is.elements)) ≡ 1 + total is.elements = omega arith in
    let many = is.count in
    ap node_count is.is ∙ (let e : node_count (list (data_of is.elements)) ≡ 17 = omega (arith, inside, whole, many) in e)

-- ---- several data

module _ (k : ℕ) (old new : List ℕ) (all : ℕ) where
  pub counts_each : (s : Shape) (n : ℕ) (strict written : Bool) → ReadsData s k strict old new written → ((d : Datum) → IsOf s d → node_count d ≡ n)
      → saturated all ≡ saturated (k * n) → CountsNodes s k old new all
  counts_each s n strict written r each is = record {
    found = r.found;
    read = r.read;
    counted =
        is ∙ ap saturated (sym (total-each n r.found (All-weaker (IsOf s) (λ d. node_count d ≡ n) each r.found r.read.spelled.of_shape) ∙ ap (λ m. m * n) r.read.size));
  }

  pub counts_lists : (capacity : Option ℕ) (s : Shape) (ns middle : List ℕ) (inside : ℕ) → Reads (SpellsLengths capacity) k old ns middle
      → CountsNodes s (sum ns) middle new inside → saturated all ≡ saturated (inside + k) → CountsNodes (seq_shape capacity s) k old new all
  counts_lists capacity s ns middle inside lengths m is = record {
    found = lists_of ns m.found;
    read = reads_sequence capacity s k new m.found lengths m.read;
    counted = let whole = total-lists ns m.found (sym m.read.size) in omega (arith, whole, lengths.size, m.counted, is);
  }

  pub counts_arrays : (size : ℕ) (s : Shape) (inside : ℕ) → k * size < 2 ^ 64 → CountsNodes s (k * size) old new inside
      → saturated all ≡ saturated (inside + k) → CountsNodes (array_shape size s) k old new all
  counts_arrays size s inside few m is = record {
    found = lists_of (replicate k size) m.found;
    read = reads_arrays size s k old new m.found few m.read;
    counted =
        let whole = total-lists (replicate k size) m.found (sum_by-replicate (λ x. x) k size ∙ sym m.read.size) in
        omega (arith, whole, length-replicate k size, m.counted, is);
  }

  pub counts_pairs : (s t : Shape) (middle : List ℕ) (first second : ℕ) → CountsNodes s k old middle first → CountsNodes t k middle new second
      → saturated all ≡ saturated (first + second + k) → CountsNodes (pair_shape s t) k old new all
  counts_pairs s t middle first second a b is = record {
    found = pairs_of a.found b.found;
    read = reads_pairs s t k new b.found a.read b.read;
    counted = let whole = total-pairs a.found b.found (a.read.size ∙ sym b.read.size) in omega (arith, whole, a.read.size, a.counted, b.counted, is);
  }

  pub counts_maps : (s t : Shape) → CountsNodes (seq_shape None (pair_shape s t)) k old new all → CountsNodes (map_shape s t) k old new all
  counts_maps s t m = record { found = m.found; read = reads_map s t k old new m.found m.read; counted = m.counted }

-- ---- choices

module _ (ss : Shapes) (count : ℕ) (entries middle : List ℕ) where
  -- the payloads of the variants before one were counted
  pub record CountedTo (variant : ℕ) (now : List ℕ) (all : ℕ) : Type 0 where
    pub lists : List (List Datum)
    pub size : length lists ≡ count
    pub read : ReadTo ss entries middle variant lists now
    pub many : (i : ℕ) → i < variant → length (payloads_of i lists) ≡ count_of i entries
    pub rest : (i : ℕ) → variant ≤ i → payloads_of i lists ≡ []
    pub counted : saturated all ≡ saturated (length entries + totals lists)

  pub counted_none : (all : ℕ) → all ≡ length entries → CountedTo 0 middle all
  counted_none all is = record {
    lists = replicate count [];
    size = length-replicate count [];
    read = read_none ss entries middle (replicate count []);
    many = λ i lt. absurd (omega (arith, lt));
    rest = λ i le. none_there count i;
    counted = let none = totals-none count in omega (arith, is, none);
  }

  module _ (known : variant_count ss ≡ count) where
    pub counted_next : (variant next : ℕ) (now new : List ℕ) (before inside all : ℕ) → next ≡ suc variant → variant < count → CountedTo variant now before
        → CountsNodes (shape_at variant ss) (count_of variant entries) now new inside → saturated all ≡ saturated (before + inside) → CountedTo next new all
    counted_next variant next now new before inside all is below done m sum_is =
        let lists = slice_set done.lists variant m.found in
        let within : variant < length done.lists = subst (λ n. variant < n) (sym done.size) below in
        let here : payloads_of variant lists ≡ m.found = get_or-set_same done.lists variant m.found [] within in
        let others : KeepsOthers [] variant done.lists lists = ap (slice_set done.lists variant) (sym here) in
        let set = totals-set done.lists variant m.found within in
        let none : total (payloads_of variant done.lists) ≡ 0 = ap total (done.rest variant (omega arith)) in
        subst (λ n. CountedTo n new all) (sym is)
        (record {
          lists = lists;
          size = length-set done.lists variant m.found ∙ done.size;
          read = read_next ss entries middle variant done.lists now done.read (subst (λ n. variant < n) (sym known) below) lists new within others
              (subst (λ ds. Reads (Spells (shape_at variant ss)) (count_of variant entries) now ds new) (sym here) m.read);
          many = λ i lt.
              elim (cases_same i variant) [
                | inl same ↦ subst (λ n. length (payloads_of n lists) ≡ count_of n entries) (sym same) (ap length here ∙ m.read.size)
                | inr other ↦ ap length (get_or-set_other done.lists variant i m.found [] other) ∙ done.many i (omega (arith, lt, other))
              ];
          rest = λ i le.
              let other : i ≢ variant = λ e. absurd (let f : suc variant ≤ i = le in omega (arith, e, f)) in
              get_or-set_other done.lists variant i m.found [] other ∙ done.rest i (omega (arith, le));
          counted = omega (arith, set, none, done.counted, m.counted, sum_is);
        })

    pub counts_choices : (variant : ℕ) (now : List ℕ) (all k : ℕ) (old : List ℕ) → CountedTo variant now all → count ≤ variant
        → All (λ v. v < count) entries → Reads (SpellsVariants count) k old entries middle → CountsNodes (choice_shape ss) k old now all
    counts_choices variant now all k old done past below column =
        let whole =
        read_all ss entries middle variant done.lists now done.read (subst (λ n. n ≤ variant) (sym known) past) (subst (λ n. n ≤ variant) (sym done.size) past) in
        let each : (v : ℕ) → length (payloads_of v done.lists) ≡ count_of v entries = λ v.
        elim (cases_lt v variant) [
          | inl less ↦ done.many v less
          | inr le ↦ ap length (done.rest v le) ∙ sym (count_none count v entries (omega (arith, le, past)) below)
        ] in
        record {
          found = choices_of entries done.lists;
          read = reads_enum ss count k old known entries middle column done.lists now whole;
          counted = done.counted ∙ ap saturated (sym (total-choices entries done.lists each));
        }
