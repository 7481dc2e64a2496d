-- A datum is the content of a value, whatever its type. A bool is the number 0 or 1, a char its scalar value, a map a
-- list of tuples of two.
use Rattle.std.specs.Prelude.{ℕ, ℤ, pos, unsigned_abs, List, [], ◌∷◌}

mutual
  pub data Datum : Type 0 where
    unit : Datum
    number : ℤ → Datum
    text : List ℕ → Datum
    list : Data → Datum
    tuple : Data → Datum
    choice : ℕ → Datum → Datum

  -- a list of data
  pub data Data : Type 0 where
    no_data : Data
    datum_and : Datum → Data → Data

-- ---- lists of data, as a list

abbrev pub data_of : List Datum → Data
data_of [] = no_data
data_of (d ∷ ds) = datum_and d (data_of ds)

abbrev pub list_of : Data → List Datum
list_of no_data = []
list_of (datum_and d ds) = d ∷ list_of ds

abbrev pub pair : Datum → Datum → Datum
pair first second = tuple (datum_and first (datum_and second no_data))

-- ---- the parts of a datum; if it has no such part, a harmless default

abbrev pub number_in : Datum → ℤ
number_in (number z) = z
number_in _ = pos 0

abbrev pub natural_in : Datum → ℕ
natural_in d = unsigned_abs (number_in d)

abbrev pub text_in : Datum → List ℕ
text_in (text bytes) = bytes
text_in _ = []

-- the elements of a list
abbrev pub elements_in : Datum → List Datum
elements_in (list ds) = list_of ds
elements_in _ = []

-- the fields of a tuple of two
abbrev pub first_of : Data → Datum
first_of no_data = unit
first_of (datum_and d ds) = d

abbrev pub rest_of : Data → Data
rest_of no_data = no_data
rest_of (datum_and d ds) = ds

abbrev pub fields_in : Datum → Data
fields_in (tuple ds) = ds
fields_in _ = no_data

abbrev pub first_in : Datum → Datum
first_in d = first_of (fields_in d)

abbrev pub second_in : Datum → Datum
second_in d = first_of (rest_of (fields_in d))

abbrev pub variant_in : Datum → ℕ
variant_in (choice i d) = i
variant_in _ = 0

abbrev pub payload_in : Datum → Datum
payload_in (choice i d) = d
payload_in _ = unit
