-- The texts of worked traces.
use Rattle.std.specs.Prelude.{◌≡◌, [], ◌∷◌, ◌++◌, codes}
use Rattle.model_history.specs.Texts.{Text}
use Rattle.model_trace_rows.specs.Rows.{with_quotes, counted, departed, deleted, of_set, set_lines, counts, with_x}
use Rattle.trace_text.specs.Texts.{trace_text}

abbrev pub counted_text : Text
counted_text = with_quotes (codes "{'keys':[{'key':'n','kind':'gcounter'}],'lines':[{'at':0,'by':5,'do':'record','key':'n','op':'increment'},{'at':1,'do':'hold','key':'n','known':[[0,1]]},{'at':1,'do':'show','key':'n','value':'5'},{'at':0,'do':'show','key':'n','value':'5'},{'at':1,'do':'show','key':'n','value':'5'}]}") ++ 10 ∷ []

abbrev pub departed_text : Text
departed_text = with_quotes (codes "{'keys':[{'key':'n','kind':'gcounter'}],'lines':[{'at':3,'by':10,'do':'record','key':'n','op':'increment'},{'at':0,'do':'hold','key':'n','known':[[3,1]]},{'at':1,'do':'hold','key':'n','known':[[3,1]]},{'at':2,'do':'hold','key':'n','known':[[3,1]]},{'at':0,'do':'record','id':3,'key':'n','op':'prune'},{'at':2,'do':'hold','key':'n','known':[[0,1],[3,1]]},{'at':1,'do':'hold','key':'n','known':[[0,1],[3,1]]},{'at':1,'do':'show','key':'n','value':'10'},{'at':1,'do':'show','key':'n','value':'10'},{'at':2,'do':'show','key':'n','value':'10'}]}") ++ 10 ∷ []

abbrev pub deleted_text : Text
deleted_text = with_quotes (codes "{'keys':[{'key':'n','kind':'gcounter'}],'lines':[{'at':0,'by':5,'do':'record','key':'n','op':'increment'},{'at':0,'do':'show','key':'n','value':'5'},{'at':0,'do':'record','key':'n','op':'delete'},{'at':0,'do':'show','key':'n','value':'deleted'},{'at':1,'do':'hold','key':'n','known':[[0,2]]},{'at':0,'do':'show','key':'n','value':'deleted'},{'at':1,'do':'show','key':'n','value':'deleted'}]}") ++ 10 ∷ []

-- a backslash before each quote of the value
abbrev pub quoted_x : Text
quoted_x = codes "{" ++ 92 ∷ 34 ∷ codes "x" ++ 92 ∷ 34 ∷ codes "}"

abbrev pub foreign_text : Text
foreign_text = with_quotes (codes "{'keys':[{'key':'s','kind':'orset'}],'lines':[{'at':0,'do':'record','element':'x','key':'s','op':'add'},{'at':1,'do':'hold','key':'s','known':[[0,1]]},{'at':1,'do':'record','element':'x','key':'s','op':'remove'},{'at':0,'do':'record','element':'x','key':'s','op':'add'},{'at':0,'do':'hold','key':'s','known':[[0,2],[1,1]]},{'at':0,'do':'show','key':'s','value':'")
    ++ quoted_x ++ with_quotes (codes "'},{'at':1,'do':'show','key':'s','value':'{}'}]}") ++ 10 ∷ []

abbrev pub Counted : Type 0
Counted = trace_text counted ≡ counted_text

abbrev pub OwnerDeparts : Type 0
OwnerDeparts = trace_text departed ≡ departed_text

abbrev pub DeletedKey : Type 0
DeletedKey = trace_text deleted ≡ deleted_text

abbrev pub AnotherSystem : Type 0
AnotherSystem = trace_text (of_set (set_lines (counts (2 ∷ 1 ∷ [])) with_x)) ≡ foreign_text
