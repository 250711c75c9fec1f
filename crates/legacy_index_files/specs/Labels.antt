-- The labels of encodings ("Names and labels"), and the encoding that a label names ("get an encoding").
use Rattle.std.specs.Prelude.{ℕ, ◌-◌, List, [], ◌∷◌, length, take, drop, map, Option, Bool, codes, find, bytes_eq}
use Rattle.std.specs.List.{list_any, prefix_len, suffix_len}
use Rattle.std.specs.Char.{is_ascii_whitespace, to_ascii_lowercase}
use Rattle.std.specs.Borrow.{Bor}
use Rattle.legacy_index_files.specs.declared.encodings.Encoding.{Encoding}
use Rattle.legacy_index_files.specs.declared.encodings.Encoding.TheVariants as encoding
use Rattle.legacy_index_files.specs.declared.encodings.TheConstants.{ENCODINGS}

-- the labels of an encoding; those of UTF-8 are not here
abbrev pub labels_of : Encoding → List (List ℕ)
labels_of encoding.Ibm866 = codes "866" ∷ codes "cp866" ∷ codes "csibm866" ∷ codes "ibm866" ∷ []
labels_of encoding.Iso8859_2 =
    codes "csisolatin2" ∷ codes "iso-8859-2" ∷ codes "iso-ir-101" ∷ codes "iso8859-2" ∷ codes "iso88592" ∷ codes "iso_8859-2" ∷
    codes "iso_8859-2:1987" ∷ codes "l2" ∷ codes "latin2" ∷ []
labels_of encoding.Iso8859_3 =
    codes "csisolatin3" ∷ codes "iso-8859-3" ∷ codes "iso-ir-109" ∷ codes "iso8859-3" ∷ codes "iso88593" ∷ codes "iso_8859-3" ∷
    codes "iso_8859-3:1988" ∷ codes "l3" ∷ codes "latin3" ∷ []
labels_of encoding.Iso8859_4 =
    codes "csisolatin4" ∷ codes "iso-8859-4" ∷ codes "iso-ir-110" ∷ codes "iso8859-4" ∷ codes "iso88594" ∷ codes "iso_8859-4" ∷
    codes "iso_8859-4:1988" ∷ codes "l4" ∷ codes "latin4" ∷ []
labels_of encoding.Iso8859_5 =
    codes "csisolatincyrillic" ∷ codes "cyrillic" ∷ codes "iso-8859-5" ∷ codes "iso-ir-144" ∷ codes "iso8859-5" ∷ codes "iso88595" ∷
    codes "iso_8859-5" ∷ codes "iso_8859-5:1988" ∷ []
labels_of encoding.Iso8859_6 =
    codes "arabic" ∷ codes "asmo-708" ∷ codes "csiso88596e" ∷ codes "csiso88596i" ∷ codes "csisolatinarabic" ∷ codes "ecma-114" ∷ codes "iso-8859-6" ∷
    codes "iso-8859-6-e" ∷ codes "iso-8859-6-i" ∷ codes "iso-ir-127" ∷ codes "iso8859-6" ∷ codes "iso88596" ∷ codes "iso_8859-6" ∷
    codes "iso_8859-6:1987" ∷ []
labels_of encoding.Iso8859_7 =
    codes "csisolatingreek" ∷ codes "ecma-118" ∷ codes "elot_928" ∷ codes "greek" ∷ codes "greek8" ∷ codes "iso-8859-7" ∷ codes "iso-ir-126" ∷
    codes "iso8859-7" ∷ codes "iso88597" ∷ codes "iso_8859-7" ∷ codes "iso_8859-7:1987" ∷ codes "sun_eu_greek" ∷ []
labels_of encoding.Iso8859_8 =
    codes "csiso88598e" ∷ codes "csisolatinhebrew" ∷ codes "hebrew" ∷ codes "iso-8859-8" ∷ codes "iso-8859-8-e" ∷ codes "iso-ir-138" ∷
    codes "iso8859-8" ∷ codes "iso88598" ∷ codes "iso_8859-8" ∷ codes "iso_8859-8:1988" ∷ codes "visual" ∷ []
labels_of encoding.Iso8859_8I = codes "csiso88598i" ∷ codes "iso-8859-8-i" ∷ codes "logical" ∷ []
labels_of encoding.Iso8859_10 =
    codes "csisolatin6" ∷ codes "iso-8859-10" ∷ codes "iso-ir-157" ∷ codes "iso8859-10" ∷ codes "iso885910" ∷ codes "l6" ∷ codes "latin6" ∷ []
labels_of encoding.Iso8859_13 = codes "iso-8859-13" ∷ codes "iso8859-13" ∷ codes "iso885913" ∷ []
labels_of encoding.Iso8859_14 = codes "iso-8859-14" ∷ codes "iso8859-14" ∷ codes "iso885914" ∷ []
labels_of encoding.Iso8859_15 =
    codes "csisolatin9" ∷ codes "iso-8859-15" ∷ codes "iso8859-15" ∷ codes "iso885915" ∷ codes "iso_8859-15" ∷ codes "l9" ∷ []
labels_of encoding.Iso8859_16 = codes "iso-8859-16" ∷ []
labels_of encoding.Koi8R = codes "cskoi8r" ∷ codes "koi" ∷ codes "koi8" ∷ codes "koi8-r" ∷ codes "koi8_r" ∷ []
labels_of encoding.Koi8U = codes "koi8-ru" ∷ codes "koi8-u" ∷ []
labels_of encoding.Macintosh = codes "csmacintosh" ∷ codes "mac" ∷ codes "macintosh" ∷ codes "x-mac-roman" ∷ []
labels_of encoding.Windows874 =
    codes "dos-874" ∷ codes "iso-8859-11" ∷ codes "iso8859-11" ∷ codes "iso885911" ∷ codes "tis-620" ∷ codes "windows-874" ∷ []
labels_of encoding.Windows1250 = codes "cp1250" ∷ codes "windows-1250" ∷ codes "x-cp1250" ∷ []
labels_of encoding.Windows1251 = codes "cp1251" ∷ codes "windows-1251" ∷ codes "x-cp1251" ∷ []
labels_of encoding.Windows1252 =
    codes "ansi_x3.4-1968" ∷ codes "ascii" ∷ codes "cp1252" ∷ codes "cp819" ∷ codes "csisolatin1" ∷ codes "ibm819" ∷ codes "iso-8859-1" ∷
    codes "iso-ir-100" ∷ codes "iso8859-1" ∷ codes "iso88591" ∷ codes "iso_8859-1" ∷ codes "iso_8859-1:1987" ∷ codes "l1" ∷ codes "latin1" ∷
    codes "us-ascii" ∷ codes "windows-1252" ∷ codes "x-cp1252" ∷ []
labels_of encoding.Windows1253 = codes "cp1253" ∷ codes "windows-1253" ∷ codes "x-cp1253" ∷ []
labels_of encoding.Windows1254 =
    codes "cp1254" ∷ codes "csisolatin5" ∷ codes "iso-8859-9" ∷ codes "iso-ir-148" ∷ codes "iso8859-9" ∷ codes "iso88599" ∷ codes "iso_8859-9" ∷
    codes "iso_8859-9:1989" ∷ codes "l5" ∷ codes "latin5" ∷ codes "windows-1254" ∷ codes "x-cp1254" ∷ []
labels_of encoding.Windows1255 = codes "cp1255" ∷ codes "windows-1255" ∷ codes "x-cp1255" ∷ []
labels_of encoding.Windows1256 = codes "cp1256" ∷ codes "windows-1256" ∷ codes "x-cp1256" ∷ []
labels_of encoding.Windows1257 = codes "cp1257" ∷ codes "windows-1257" ∷ codes "x-cp1257" ∷ []
labels_of encoding.Windows1258 = codes "cp1258" ∷ codes "windows-1258" ∷ codes "x-cp1258" ∷ []
labels_of encoding.MacCyrillic = codes "x-mac-cyrillic" ∷ codes "x-mac-ukrainian" ∷ []
labels_of encoding.Gbk =
    codes "chinese" ∷ codes "csgb2312" ∷ codes "csiso58gb231280" ∷ codes "gb2312" ∷ codes "gb_2312" ∷ codes "gb_2312-80" ∷ codes "gbk" ∷
    codes "iso-ir-58" ∷ codes "x-gbk" ∷ []
labels_of encoding.Gb18030 = codes "gb18030" ∷ []
labels_of encoding.Big5 = codes "big5" ∷ codes "big5-hkscs" ∷ codes "cn-big5" ∷ codes "csbig5" ∷ codes "x-x-big5" ∷ []
labels_of encoding.EucJp = codes "cseucpkdfmtjapanese" ∷ codes "euc-jp" ∷ codes "x-euc-jp" ∷ []
labels_of encoding.Iso2022Jp = codes "csiso2022jp" ∷ codes "iso-2022-jp" ∷ []
labels_of encoding.ShiftJis =
    codes "csshiftjis" ∷ codes "ms932" ∷ codes "ms_kanji" ∷ codes "shift-jis" ∷ codes "shift_jis" ∷ codes "sjis" ∷ codes "windows-31j" ∷
    codes "x-sjis" ∷ []
labels_of encoding.EucKr =
    codes "cseuckr" ∷ codes "csksc56011987" ∷ codes "euc-kr" ∷ codes "iso-ir-149" ∷ codes "korean" ∷ codes "ks_c_5601-1987" ∷ codes "ks_c_5601-1989" ∷
    codes "ksc5601" ∷ codes "ksc_5601" ∷ codes "windows-949" ∷ []
labels_of encoding.Replacement =
    codes "csiso2022kr" ∷ codes "hz-gb-2312" ∷ codes "iso-2022-cn" ∷ codes "iso-2022-cn-ext" ∷ codes "iso-2022-kr" ∷ codes "replacement" ∷ []
labels_of encoding.Utf16Be = codes "unicodefffe" ∷ codes "utf-16be" ∷ []
labels_of encoding.Utf16Le =
    codes "csunicode" ∷ codes "iso-10646-ucs-2" ∷ codes "ucs-2" ∷ codes "unicode" ∷ codes "unicodefeff" ∷ codes "utf-16" ∷ codes "utf-16le" ∷ []
labels_of encoding.UserDefined = codes "x-user-defined" ∷ []

-- the texts of borrowed labels
abbrev pub texts_of : List (Bor (List ℕ)) → List (List ℕ)
texts_of labels = map (λ label. label.now) labels

-- the text without the ASCII whitespace at its beginning, and at its end
abbrev pub trimmed_start : List ℕ → List ℕ
trimmed_start text = drop (prefix_len is_ascii_whitespace text) text

abbrev pub trimmed_end : List ℕ → List ℕ
trimmed_end text = take (length text - suffix_len is_ascii_whitespace text) text

-- the texts are an ASCII case-insensitive match
abbrev pub are_same_label : List ℕ → List ℕ → Bool
are_same_label known label = bytes_eq (map to_ascii_lowercase known) (map to_ascii_lowercase label)

-- the text is one of the labels, in any case
abbrev pub is_among : List ℕ → List (List ℕ) → Bool
is_among label labels = list_any (λ known. are_same_label known label) labels

-- The encoding of a label, with ASCII whitespace around it or not. There is none for a label of UTF-8.
unfoldable pub encoding_labelled : List ℕ → Option Encoding
encoding_labelled label = find (λ e. is_among (trimmed_end (trimmed_start label)) (labels_of e)) ENCODINGS
