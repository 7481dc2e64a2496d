-- What a call that may fail leaves.
use Rattle.std.specs.Prelude.{Result, Ok, Err, IfOk, OnOk, OnErr}

pub when_ok : {A E P Q : Type 0} (r : Result A E) → (P → Q) → OnOk r P → OnOk r Q
when_ok (Ok a) f h = f h
when_ok (Err e) f h = tt

pub when_err : {A E P Q : Type 0} (r : Result A E) → (P → Q) → OnErr r P → OnErr r Q
when_err (Ok a) f h = tt
when_err (Err e) f h = f h

pub if_ok : {A E : Type 0} (P Q : A → Type 0) (r : Result A E) → ((a : A) → P a → Q a) → IfOk r P → IfOk r Q
if_ok P Q (Ok a) f h = f a h
if_ok P Q (Err e) f h = tt

pub told_ok : {A E : Type 0} (P : A → Type 0) (Q : Type 0) (r : Result A E) → ((a : A) → P a → Q) → IfOk r P → OnOk r Q
told_ok P Q (Ok a) f h = f a h
told_ok P Q (Err e) f h = tt

pub either_way : {A E : Type 0} (P : A → Type 0) (Q R : Type 0) (r : Result A E) → ((a : A) → P a → R) → (Q → R) → IfOk r P → OnErr r Q → R
either_way P Q R (Ok a) f g h k = f a h
either_way P Q R (Err e) f g h k = g k

pub on_ok : {A E : Type 0} (P Q R : Type 0) (r : Result A E) → OnOk r P → OnOk r Q → (P → Q → R) → OnOk r R
on_ok P Q R (Ok a) h g f = f h g
on_ok P Q R (Err e) h g f = tt

pub on_all : {A E : Type 0} (P : Type 0) (r : Result A E) → P → OnOk r P
on_all P (Ok a) h = h
on_all P (Err e) h = tt
