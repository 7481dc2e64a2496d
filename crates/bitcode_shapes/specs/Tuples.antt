-- Written by scripts/tables/tuples.
-- A tuple of three or more fields corresponds to the pair of its first half and its second, the longer one last. A half
-- with one field is that field. Each such pair belongs to a tuple. In proofs a tuple of more than twelve fields is a
-- nest of pairs that ends in the unit.
use Rattle.std.proofs.Common.{◌≡◌, refl}

abbrev pub split_3 : {A B C : Type 0} → A × B × C → A × (B × C)
split_3 (a, b, c) = (a, (b, c))

abbrev pub joined_3 : {A B C : Type 0} (p : A × (B × C)) → (t : A × B × C) × (split_3 t ≡ p)
joined_3 (a, (b, c)) = ((a, b, c), refl)

pub again_3 : {A B C : Type 0} (t : A × B × C) → (joined_3 (split_3 t)).0 ≡ t
again_3 t = refl

abbrev pub split_4 : {A B C D : Type 0} → A × B × C × D → (A × B) × (C × D)
split_4 (a, b, c, d) = ((a, b), (c, d))

abbrev pub joined_4 : {A B C D : Type 0} (p : (A × B) × (C × D)) → (t : A × B × C × D) × (split_4 t ≡ p)
joined_4 ((a, b), (c, d)) = ((a, b, c, d), refl)

pub again_4 : {A B C D : Type 0} (t : A × B × C × D) → (joined_4 (split_4 t)).0 ≡ t
again_4 t = refl

abbrev pub split_5 : {A B C D E : Type 0} → A × B × C × D × E → (A × B) × (C × D × E)
split_5 (a, b, c, d, e) = ((a, b), (c, d, e))

abbrev pub joined_5 : {A B C D E : Type 0} (p : (A × B) × (C × D × E)) → (t : A × B × C × D × E) × (split_5 t ≡ p)
joined_5 ((a, b), (c, d, e)) = ((a, b, c, d, e), refl)

pub again_5 : {A B C D E : Type 0} (t : A × B × C × D × E) → (joined_5 (split_5 t)).0 ≡ t
again_5 t = refl

abbrev pub split_6 : {A B C D E F : Type 0} → A × B × C × D × E × F → (A × B × C) × (D × E × F)
split_6 (a, b, c, d, e, f) = ((a, b, c), (d, e, f))

abbrev pub joined_6 : {A B C D E F : Type 0} (p : (A × B × C) × (D × E × F)) → (t : A × B × C × D × E × F) × (split_6 t ≡ p)
joined_6 ((a, b, c), (d, e, f)) = ((a, b, c, d, e, f), refl)

pub again_6 : {A B C D E F : Type 0} (t : A × B × C × D × E × F) → (joined_6 (split_6 t)).0 ≡ t
again_6 t = refl

abbrev pub split_7 : {A B C D E F G : Type 0} → A × B × C × D × E × F × G → (A × B × C) × (D × E × F × G)
split_7 (a, b, c, d, e, f, g) = ((a, b, c), (d, e, f, g))

abbrev pub joined_7 : {A B C D E F G : Type 0} (p : (A × B × C) × (D × E × F × G)) → (t : A × B × C × D × E × F × G) × (split_7 t ≡ p)
joined_7 ((a, b, c), (d, e, f, g)) = ((a, b, c, d, e, f, g), refl)

pub again_7 : {A B C D E F G : Type 0} (t : A × B × C × D × E × F × G) → (joined_7 (split_7 t)).0 ≡ t
again_7 t = refl

abbrev pub split_8 : {A B C D E F G H : Type 0} → A × B × C × D × E × F × G × H → (A × B × C × D) × (E × F × G × H)
split_8 (a, b, c, d, e, f, g, h) = ((a, b, c, d), (e, f, g, h))

abbrev pub joined_8 : {A B C D E F G H : Type 0} (p : (A × B × C × D) × (E × F × G × H)) → (t : A × B × C × D × E × F × G × H) × (split_8 t ≡ p)
joined_8 ((a, b, c, d), (e, f, g, h)) = ((a, b, c, d, e, f, g, h), refl)

pub again_8 : {A B C D E F G H : Type 0} (t : A × B × C × D × E × F × G × H) → (joined_8 (split_8 t)).0 ≡ t
again_8 t = refl

abbrev pub split_9 : {A B C D E F G H I : Type 0} → A × B × C × D × E × F × G × H × I → (A × B × C × D) × (E × F × G × H × I)
split_9 (a, b, c, d, e, f, g, h, i) = ((a, b, c, d), (e, f, g, h, i))

abbrev pub joined_9 : {A B C D E F G H I : Type 0} (p : (A × B × C × D) × (E × F × G × H × I)) → (t : A × B × C × D × E × F × G × H × I) × (split_9 t ≡ p)
joined_9 ((a, b, c, d), (e, f, g, h, i)) = ((a, b, c, d, e, f, g, h, i), refl)

pub again_9 : {A B C D E F G H I : Type 0} (t : A × B × C × D × E × F × G × H × I) → (joined_9 (split_9 t)).0 ≡ t
again_9 t = refl

abbrev pub split_10 : {A B C D E F G H I J : Type 0} → A × B × C × D × E × F × G × H × I × J → (A × B × C × D × E) × (F × G × H × I × J)
split_10 (a, b, c, d, e, f, g, h, i, j) = ((a, b, c, d, e), (f, g, h, i, j))

abbrev pub joined_10 : {A B C D E F G H I J : Type 0} (p : (A × B × C × D × E) × (F × G × H × I × J)) → (t : A × B × C × D × E × F × G × H × I × J) × (split_10 t ≡ p)
joined_10 ((a, b, c, d, e), (f, g, h, i, j)) = ((a, b, c, d, e, f, g, h, i, j), refl)

pub again_10 : {A B C D E F G H I J : Type 0} (t : A × B × C × D × E × F × G × H × I × J) → (joined_10 (split_10 t)).0 ≡ t
again_10 t = refl

abbrev pub split_11 : {A B C D E F G H I J K : Type 0} → A × B × C × D × E × F × G × H × I × J × K → (A × B × C × D × E) × (F × G × H × I × J × K)
split_11 (a, b, c, d, e, f, g, h, i, j, k) = ((a, b, c, d, e), (f, g, h, i, j, k))

abbrev pub joined_11 : {A B C D E F G H I J K : Type 0} (p : (A × B × C × D × E) × (F × G × H × I × J × K)) → (t : A × B × C × D × E × F × G × H × I × J × K) × (split_11 t ≡ p)
joined_11 ((a, b, c, d, e), (f, g, h, i, j, k)) = ((a, b, c, d, e, f, g, h, i, j, k), refl)

pub again_11 : {A B C D E F G H I J K : Type 0} (t : A × B × C × D × E × F × G × H × I × J × K) → (joined_11 (split_11 t)).0 ≡ t
again_11 t = refl

abbrev pub split_12 : {A B C D E F G H I J K L : Type 0} → A × B × C × D × E × F × G × H × I × J × K × L → (A × B × C × D × E × F) × (G × H × I × J × K × L)
split_12 (a, b, c, d, e, f, g, h, i, j, k, l) = ((a, b, c, d, e, f), (g, h, i, j, k, l))

abbrev pub joined_12 : {A B C D E F G H I J K L : Type 0} (p : (A × B × C × D × E × F) × (G × H × I × J × K × L)) → (t : A × B × C × D × E × F × G × H × I × J × K × L) × (split_12 t ≡ p)
joined_12 ((a, b, c, d, e, f), (g, h, i, j, k, l)) = ((a, b, c, d, e, f, g, h, i, j, k, l), refl)

pub again_12 : {A B C D E F G H I J K L : Type 0} (t : A × B × C × D × E × F × G × H × I × J × K × L) → (joined_12 (split_12 t)).0 ≡ t
again_12 t = refl

abbrev pub split_13 : {A B C D E F G H I J K L M : Type 0} → A × (B × (C × (D × (E × (F × (G × (H × (I × (J × (K × (L × (M × Unit {0})))))))))))) → (A × B × C × D × E × F) × (G × H × I × J × K × L × M)
split_13 (a, (b, (c, (d, (e, (f, (g, (h, (i, (j, (k, (l, (m, _))))))))))))) = ((a, b, c, d, e, f), (g, h, i, j, k, l, m))

abbrev pub joined_13 : {A B C D E F G H I J K L M : Type 0} (p : (A × B × C × D × E × F) × (G × H × I × J × K × L × M)) → (t : A × (B × (C × (D × (E × (F × (G × (H × (I × (J × (K × (L × (M × Unit {0}))))))))))))) × (split_13 t ≡ p)
joined_13 ((a, b, c, d, e, f), (g, h, i, j, k, l, m)) = ((a, (b, (c, (d, (e, (f, (g, (h, (i, (j, (k, (l, (m, tt))))))))))))), refl)

pub again_13 : {A B C D E F G H I J K L M : Type 0} (t : A × (B × (C × (D × (E × (F × (G × (H × (I × (J × (K × (L × (M × Unit {0}))))))))))))) → (joined_13 (split_13 t)).0 ≡ t
again_13 t = refl

abbrev pub split_14 : {A B C D E F G H I J K L M N : Type 0} → A × (B × (C × (D × (E × (F × (G × (H × (I × (J × (K × (L × (M × (N × Unit {0}))))))))))))) → (A × B × C × D × E × F × G) × (H × I × J × K × L × M × N)
split_14 (a, (b, (c, (d, (e, (f, (g, (h, (i, (j, (k, (l, (m, (n, _)))))))))))))) = ((a, b, c, d, e, f, g), (h, i, j, k, l, m, n))

abbrev pub joined_14 : {A B C D E F G H I J K L M N : Type 0} (p : (A × B × C × D × E × F × G) × (H × I × J × K × L × M × N)) → (t : A × (B × (C × (D × (E × (F × (G × (H × (I × (J × (K × (L × (M × (N × Unit {0})))))))))))))) × (split_14 t ≡ p)
joined_14 ((a, b, c, d, e, f, g), (h, i, j, k, l, m, n)) = ((a, (b, (c, (d, (e, (f, (g, (h, (i, (j, (k, (l, (m, (n, tt)))))))))))))), refl)

pub again_14 : {A B C D E F G H I J K L M N : Type 0} (t : A × (B × (C × (D × (E × (F × (G × (H × (I × (J × (K × (L × (M × (N × Unit {0})))))))))))))) → (joined_14 (split_14 t)).0 ≡ t
again_14 t = refl

abbrev pub split_15 : {A B C D E F G H I J K L M N O : Type 0} → A × (B × (C × (D × (E × (F × (G × (H × (I × (J × (K × (L × (M × (N × (O × Unit {0})))))))))))))) → (A × B × C × D × E × F × G) × (H × I × J × K × L × M × N × O)
split_15 (a, (b, (c, (d, (e, (f, (g, (h, (i, (j, (k, (l, (m, (n, (o, _))))))))))))))) = ((a, b, c, d, e, f, g), (h, i, j, k, l, m, n, o))

abbrev pub joined_15 : {A B C D E F G H I J K L M N O : Type 0} (p : (A × B × C × D × E × F × G) × (H × I × J × K × L × M × N × O)) → (t : A × (B × (C × (D × (E × (F × (G × (H × (I × (J × (K × (L × (M × (N × (O × Unit {0}))))))))))))))) × (split_15 t ≡ p)
joined_15 ((a, b, c, d, e, f, g), (h, i, j, k, l, m, n, o)) = ((a, (b, (c, (d, (e, (f, (g, (h, (i, (j, (k, (l, (m, (n, (o, tt))))))))))))))), refl)

pub again_15 : {A B C D E F G H I J K L M N O : Type 0} (t : A × (B × (C × (D × (E × (F × (G × (H × (I × (J × (K × (L × (M × (N × (O × Unit {0}))))))))))))))) → (joined_15 (split_15 t)).0 ≡ t
again_15 t = refl

abbrev pub split_16 : {A B C D E F G H I J K L M N O P : Type 0} → A × (B × (C × (D × (E × (F × (G × (H × (I × (J × (K × (L × (M × (N × (O × (P × Unit {0}))))))))))))))) → (A × B × C × D × E × F × G × H) × (I × J × K × L × M × N × O × P)
split_16 (a, (b, (c, (d, (e, (f, (g, (h, (i, (j, (k, (l, (m, (n, (o, (p, _)))))))))))))))) = ((a, b, c, d, e, f, g, h), (i, j, k, l, m, n, o, p))

abbrev pub joined_16 : {A B C D E F G H I J K L M N O P : Type 0} (p : (A × B × C × D × E × F × G × H) × (I × J × K × L × M × N × O × P)) → (t : A × (B × (C × (D × (E × (F × (G × (H × (I × (J × (K × (L × (M × (N × (O × (P × Unit {0})))))))))))))))) × (split_16 t ≡ p)
joined_16 ((a, b, c, d, e, f, g, h), (i, j, k, l, m, n, o, p)) = ((a, (b, (c, (d, (e, (f, (g, (h, (i, (j, (k, (l, (m, (n, (o, (p, tt)))))))))))))))), refl)

pub again_16 : {A B C D E F G H I J K L M N O P : Type 0} (t : A × (B × (C × (D × (E × (F × (G × (H × (I × (J × (K × (L × (M × (N × (O × (P × Unit {0})))))))))))))))) → (joined_16 (split_16 t)).0 ≡ t
again_16 t = refl
