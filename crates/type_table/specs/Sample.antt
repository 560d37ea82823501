-- docs/FORMAT.md, "The command's text" and "Data type entries". The table of a data type in which every number is another.
use Rattle.std.specs.Prelude.{ℕ, ◌≡◌, List, ◌++◌, codes}
use Rattle.refusal.specs.declared.Mode.TheVariants.{Present}
use Rattle.upload.specs.declared.Form.TheVariants.{Binary}
use Rattle.report.specs.declared.Upload.{Upload}
use Rattle.type_tree.specs.Sample.{sample}
use Rattle.type_table.specs.Table.{table_text}

abbrev pub table : List ℕ
table =
    codes "f (binary, 236 bytes)\n"
    ++ (codes "place  name   type  offset  from start  size  mark                             array           attributes\n"
    ++ (codes "    0  R                15           0    14  reference                                        n = v; k = \n"
    ++ (codes "   47    a    ta        25          25    24  bits, in reference               [-1..5, 3..10]\n"
    ++ (codes "  113      b  tb        35          60    34  property, in bits, in reference\n"
    ++ codes "  161    d             700         700    44  static, in reference\n"))))

abbrev pub TableTold : Type 0
TableTold = (u : Upload) → u.path.now ≡ codes "f" → u.form ≡ Binary → u.mode ≡ Present → u.bytes.now ≡ sample → table_text u ≡ table
