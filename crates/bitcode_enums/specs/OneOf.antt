-- What the payload of one of a few variants makes.
use Rattle.bitcode_enums.specs.declared.variants.of_2.OneOf2.{OneOf2}
use Rattle.bitcode_enums.specs.declared.variants.of_3.OneOf3.{OneOf3}
use Rattle.bitcode_enums.specs.declared.variants.of_4.OneOf4.{OneOf4}

abbrev pub of_one_of_2 : {A B T : Type 0} → (A → T) → (B → T) → OneOf2 A B → T
of_one_of_2 of_first of_second (OneOf2.First p) = of_first p
of_one_of_2 of_first of_second (OneOf2.Second p) = of_second p

abbrev pub of_one_of_3 : {A B C T : Type 0} → (A → T) → (B → T) → (C → T) → OneOf3 A B C → T
of_one_of_3 of_first of_second of_third (OneOf3.First p) = of_first p
of_one_of_3 of_first of_second of_third (OneOf3.Second p) = of_second p
of_one_of_3 of_first of_second of_third (OneOf3.Third p) = of_third p

abbrev pub of_one_of_4 : {A B C D T : Type 0} → (A → T) → (B → T) → (C → T) → (D → T) → OneOf4 A B C D → T
of_one_of_4 of_first of_second of_third of_fourth (OneOf4.First p) = of_first p
of_one_of_4 of_first of_second of_third of_fourth (OneOf4.Second p) = of_second p
of_one_of_4 of_first of_second of_third of_fourth (OneOf4.Third p) = of_third p
of_one_of_4 of_first of_second of_third of_fourth (OneOf4.Fourth p) = of_fourth p
