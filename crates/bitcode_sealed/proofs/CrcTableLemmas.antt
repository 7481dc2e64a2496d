-- Written by scripts/tables/checksums.
-- The tables have what each byte becomes: the first by its definition, and each other by the one before it.
use Rattle.std.proofs.Common.{◌≡◌, ℕ, ◌<◌, get_or, eqb, eqb→eq, sym, ap, ◌∙◌}
use Rattle.bitcode_columns.proofs.BitLemmas.{holds_below}
use Rattle.bitcode_sealed.specs.declared.crc_tables.TheConstants.{TABLE_0, TABLE_1, TABLE_2, TABLE_3, TABLE_4, TABLE_5, TABLE_6, TABLE_7}
use Rattle.bitcode_sealed.specs.Crc.{bit_step, bit_steps}
use Rattle.bitcode_sealed.proofs.CrcLemmas.{bit_steps-add}

pub TABLE_0_at : (byte : ℕ) → byte < 256 → get_or TABLE_0 byte 0 ≡ bit_steps 8 byte
unfolding bit_steps bit_step
TABLE_0_at byte h = eqb→eq _ _ (holds_below (λ b. eqb (get_or TABLE_0 b 0) (bit_steps 8 b)) 256 byte tt h)

TABLE_1_follows : (byte : ℕ) → byte < 256 → get_or TABLE_1 byte 0 ≡ bit_steps 8 (get_or TABLE_0 byte 0)
unfolding bit_steps bit_step
TABLE_1_follows byte h = eqb→eq _ _ (holds_below (λ b. eqb (get_or TABLE_1 b 0) (bit_steps 8 (get_or TABLE_0 b 0))) 256 byte tt h)

pub TABLE_1_at : (byte : ℕ) → byte < 256 → get_or TABLE_1 byte 0 ≡ bit_steps 16 byte
TABLE_1_at byte h = TABLE_1_follows byte h ∙ ap (bit_steps 8) (TABLE_0_at byte h) ∙ sym (bit_steps-add 8 8 byte)

TABLE_2_follows : (byte : ℕ) → byte < 256 → get_or TABLE_2 byte 0 ≡ bit_steps 8 (get_or TABLE_1 byte 0)
unfolding bit_steps bit_step
TABLE_2_follows byte h = eqb→eq _ _ (holds_below (λ b. eqb (get_or TABLE_2 b 0) (bit_steps 8 (get_or TABLE_1 b 0))) 256 byte tt h)

pub TABLE_2_at : (byte : ℕ) → byte < 256 → get_or TABLE_2 byte 0 ≡ bit_steps 24 byte
TABLE_2_at byte h = TABLE_2_follows byte h ∙ ap (bit_steps 8) (TABLE_1_at byte h) ∙ sym (bit_steps-add 16 8 byte)

TABLE_3_follows : (byte : ℕ) → byte < 256 → get_or TABLE_3 byte 0 ≡ bit_steps 8 (get_or TABLE_2 byte 0)
unfolding bit_steps bit_step
TABLE_3_follows byte h = eqb→eq _ _ (holds_below (λ b. eqb (get_or TABLE_3 b 0) (bit_steps 8 (get_or TABLE_2 b 0))) 256 byte tt h)

pub TABLE_3_at : (byte : ℕ) → byte < 256 → get_or TABLE_3 byte 0 ≡ bit_steps 32 byte
TABLE_3_at byte h = TABLE_3_follows byte h ∙ ap (bit_steps 8) (TABLE_2_at byte h) ∙ sym (bit_steps-add 24 8 byte)

TABLE_4_follows : (byte : ℕ) → byte < 256 → get_or TABLE_4 byte 0 ≡ bit_steps 8 (get_or TABLE_3 byte 0)
unfolding bit_steps bit_step
TABLE_4_follows byte h = eqb→eq _ _ (holds_below (λ b. eqb (get_or TABLE_4 b 0) (bit_steps 8 (get_or TABLE_3 b 0))) 256 byte tt h)

pub TABLE_4_at : (byte : ℕ) → byte < 256 → get_or TABLE_4 byte 0 ≡ bit_steps 40 byte
TABLE_4_at byte h = TABLE_4_follows byte h ∙ ap (bit_steps 8) (TABLE_3_at byte h) ∙ sym (bit_steps-add 32 8 byte)

TABLE_5_follows : (byte : ℕ) → byte < 256 → get_or TABLE_5 byte 0 ≡ bit_steps 8 (get_or TABLE_4 byte 0)
unfolding bit_steps bit_step
TABLE_5_follows byte h = eqb→eq _ _ (holds_below (λ b. eqb (get_or TABLE_5 b 0) (bit_steps 8 (get_or TABLE_4 b 0))) 256 byte tt h)

pub TABLE_5_at : (byte : ℕ) → byte < 256 → get_or TABLE_5 byte 0 ≡ bit_steps 48 byte
TABLE_5_at byte h = TABLE_5_follows byte h ∙ ap (bit_steps 8) (TABLE_4_at byte h) ∙ sym (bit_steps-add 40 8 byte)

TABLE_6_follows : (byte : ℕ) → byte < 256 → get_or TABLE_6 byte 0 ≡ bit_steps 8 (get_or TABLE_5 byte 0)
unfolding bit_steps bit_step
TABLE_6_follows byte h = eqb→eq _ _ (holds_below (λ b. eqb (get_or TABLE_6 b 0) (bit_steps 8 (get_or TABLE_5 b 0))) 256 byte tt h)

pub TABLE_6_at : (byte : ℕ) → byte < 256 → get_or TABLE_6 byte 0 ≡ bit_steps 56 byte
TABLE_6_at byte h = TABLE_6_follows byte h ∙ ap (bit_steps 8) (TABLE_5_at byte h) ∙ sym (bit_steps-add 48 8 byte)

TABLE_7_follows : (byte : ℕ) → byte < 256 → get_or TABLE_7 byte 0 ≡ bit_steps 8 (get_or TABLE_6 byte 0)
unfolding bit_steps bit_step
TABLE_7_follows byte h = eqb→eq _ _ (holds_below (λ b. eqb (get_or TABLE_7 b 0) (bit_steps 8 (get_or TABLE_6 b 0))) 256 byte tt h)

pub TABLE_7_at : (byte : ℕ) → byte < 256 → get_or TABLE_7 byte 0 ≡ bit_steps 64 byte
TABLE_7_at byte h = TABLE_7_follows byte h ∙ ap (bit_steps 8) (TABLE_6_at byte h) ∙ sym (bit_steps-add 56 8 byte)
