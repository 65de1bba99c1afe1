-- What is at fault in what follows the word `procedure` is at fault in the line.
use Rattle.gc_texts.proofs.Common.{◌≡◌, ℕ, List, ◌++◌, codes, append_assoc, sym, ◌∙◌, behind, IsDescriptionTrouble, IsOutsideTrouble, IsWordTrouble, first_word, Trouble}
use Rattle.gc_texts.specs.declared.trouble.Trouble.TheVariants as trouble

-- the trouble of what follows the word `procedure` is one of the line, which sets something
pub described_is_setting : (line : List ℕ) (t : Trouble) → first_word line ≡ codes "procedure" → IsDescriptionTrouble (behind 32 line) t → IsWordTrouble line t
described_is_setting line trouble.ProcedureNumber first is = (first, is)
described_is_setting line (trouble.ProcedureInTable rpc) first is = (first, is)
described_is_setting line trouble.ProcedureForm first is = (first, is)
described_is_setting line trouble.Procedure first is = (first, is)
described_is_setting line _ first is = absurd is

-- the trouble of a text that begins with a number outside the table is one of what follows the word `procedure`
pub outside_is_described : (text : List ℕ) (t : Trouble) → IsOutsideTrouble text t → IsDescriptionTrouble text t
outside_is_described text trouble.ProcedureForm is = is
outside_is_described text trouble.Procedure is = is
outside_is_described text _ is = absurd is

-- the texts of troubles of described procedures, with a line feed at the end of their last part, are these texts and then a line feed
pub described_in_table_line : (rpc name : List ℕ)
    → codes "procedure: " ++ (rpc ++ (codes " is " ++ (name ++ codes ", and needs no description\n")))
    ≡ ((((codes "procedure: " ++ rpc) ++ codes " is ") ++ name) ++ codes ", and needs no description") ++ codes "\n"
described_in_table_line rpc name =
    sym (append_assoc (((codes "procedure: " ++ rpc) ++ codes " is ") ++ name) (codes ", and needs no description") (codes "\n")
    ∙ append_assoc ((codes "procedure: " ++ rpc) ++ codes " is ") name (codes ", and needs no description\n")
    ∙ append_assoc (codes "procedure: " ++ rpc) (codes " is ") (name ++ codes ", and needs no description\n")
    ∙ append_assoc (codes "procedure: ") rpc (codes " is " ++ (name ++ codes ", and needs no description\n")))

pub undescribed_line : (rpc : List ℕ)
    → codes "no procedure " ++ (rpc ++ codes " in the table, nor with such parameters in a line procedure before this one\n")
    ≡ ((codes "no procedure " ++ rpc) ++ codes " in the table, nor with such parameters in a line procedure before this one") ++ codes "\n"
undescribed_line rpc =
    sym (append_assoc (codes "no procedure " ++ rpc) (codes " in the table, nor with such parameters in a line procedure before this one") (codes "\n")
    ∙ append_assoc (codes "no procedure ") rpc (codes " in the table, nor with such parameters in a line procedure before this one\n"))

pub value_line : (rpc : List ℕ)
    → codes "value: " ++ (rpc ++ codes " may take values of files in a cycle alone, each in the place of a Double of a line procedure before this one, 16 in a text and 512 bytes in a request\n")
    ≡ (((codes "value: " ++ rpc)
    ++ codes " may take values of files in a cycle alone, each in the place of a Double of a line procedure before this one, 16 in a text and 512 ")
    ++ codes "bytes in a request")
    ++ codes "\n"
value_line rpc =
    sym (append_assoc ((codes "value: " ++ rpc)
    ++ codes " may take values of files in a cycle alone, each in the place of a Double of a line procedure before this one, 16 in a text and 512 ") (codes "bytes in a request") (codes "\n")
    ∙ append_assoc (codes "value: " ++ rpc) (codes " may take values of files in a cycle alone, each in the place of a Double of a line procedure before this one, 16 in a text and 512 ") (codes "bytes in a request\n")
    ∙ append_assoc (codes "value: ") rpc
    (codes " may take values of files in a cycle alone, each in the place of a Double of a line procedure before this one, 16 in a text and 512 bytes in a request\n"))
