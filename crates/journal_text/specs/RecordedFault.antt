-- What a journal records of a fault: its code and a text.
use Rattle.std.specs.Prelude.{ℕ, Bool, ◌&&◌, List, length, nat_le, refl}
use Rattle.std.specs.List.{list_all}
use Rattle.std.specs.Coded.{Coded, code_by, coded×, coded_list, coded_ℕ}
use Rattle.journal_text.specs.Form.{is_code}
use Rattle.journal_text.specs.declared.form.Form.{Form}

pub record CodeAndText : Type 0 where
  pub code : ℕ
  pub text : List ℕ

-- a recorded fault by its parts
abbrev pub code_and_text : ℕ → List ℕ → CodeAndText
code_and_text code text = record { code = code; text = text }

abbrev pub coded_code_and_text : Coded CodeAndText
coded_code_and_text =
    code_by (ℕ × List ℕ) (coded× coded_ℕ (coded_list coded_ℕ)) (λ t. (t.code, t.text)) (λ p. record { code = p.0; text = p.1 }) (λ _. refl)

-- visible ASCII or a space
abbrev pub is_text_byte : ℕ → Bool
is_text_byte b = nat_le 32 b && nat_le b 126

-- a code of a fault in the form, and one or more bytes of text
unfoldable pub is_recorded_fault : Form → CodeAndText → Bool
is_recorded_fault form t = is_code form t.code && nat_le 1 (length t.text) && list_all is_text_byte t.text
